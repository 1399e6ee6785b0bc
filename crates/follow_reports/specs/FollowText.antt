-- What is printed of a run that is judged by a statement.
use Rattle.std.specs.Prelude.{◌≡◌, ℕ, ◌+◌, ◌-◌, Bool, true, false, if◌then◌else◌}
use Rattle.std.specs.Prelude.{nat_eq, List, [], ◌++◌, codes, decimal}
use Rattle.std.specs.Prelude.{Contains, MatchOption, Option, Some, None, option_map}
use Rattle.bus_ticks.specs.Prices.{class_of, narrowest_class}
use Rattle.bus_ticks.specs.declared.profile.Class.TheVariants.{Any, Ram, Rom, Io}
use Rattle.bus_ticks.specs.declared.profile.Class.TheVariants.{Slow, Medium, Fast, Synchronous}
use Rattle.bus_ticks.specs.declared.profile.Class.{Class}
use Rattle.asm_text.specs.Hex.{hex}
use Rattle.statement.specs.Stated.{Stated, cycles_at}
use Rattle.statement.specs.Statement.{class_name}
use Rattle.statement.specs.declared.stated.Taken.{Taken}
use Rattle.statement.specs.declared.stated.Taken.TheVariants.{Always, Never}
use Rattle.sources.specs.Lines.{line_of}
use Rattle.sources.specs.Source.{IsSource}
use Rattle.sources.specs.declared.read.Source.{Source}
use Rattle.text_trace.specs.TraceText.{exception_name, why_name}
use Rattle.kept_runs.specs.declared.following.Unkept.{Unkept}
use Rattle.kept_runs.specs.declared.following.Unkept.TheVariants as unkept
use Rattle.kept_runs.specs.declared.judging.Stray.{Stray}
use Rattle.kept_runs.specs.declared.judging.Stray.TheVariants as stray
use Rattle.kept_runs.specs.declared.transfers.Access.{Access}
use Rattle.image.specs.Image.{Words, word_of}
use Rattle.text_explained.specs.Assumed.{AreDoneReturns}
use Rattle.text_explained.specs.Taken.{is_at}
use Rattle.control_flow.specs.Flow.{Flow}
use Rattle.control_flow.specs.Places.{place_at}
use Rattle.kept_runs.specs.Passing.{Pass}
use Rattle.sources.specs.File.{File}

-- ## A run that keeps the statement

-- how much less than the most of this name the ticks are
abbrev pub less_text : (name : List ℕ) → (ticks most : ℕ) → List ℕ
less_text name ticks most =
    if nat_eq ticks most then codes "the " ++ name
    else decimal (most - ticks) ++ (codes " less than the " ++ name)

abbrev pub kept_text : (ticks bound : ℕ) → List ℕ
kept_text ticks bound =
    codes "kept: "
    ++ (decimal ticks ++ (codes " ticks, " ++ (less_text (codes "bound") ticks bound ++ codes "\n")))

-- ## Why a step does not

abbrev pub access_name : (store : Bool) → List ℕ
access_name true = codes "stored to "
access_name false = codes "loaded from "

-- the class of an address, with its speed where a speed is stated
abbrev pub class_shown : (stated : Class) → ℕ → Class
class_shown Ram a = class_of a
class_shown Rom a = class_of a
class_shown Io a = class_of a
class_shown Any a = class_of a
class_shown Slow a = narrowest_class a
class_shown Medium a = narrowest_class a
class_shown Fast a = narrowest_class a
class_shown Synchronous a = narrowest_class a

-- which word is transferred, of which class, and the class that is stated
abbrev pub access_text : Class → Access → List ℕ
access_text stated a =
    access_name a.store
    ++ (hex a.address
    ++ (codes ", "
    ++ (class_name (class_shown stated a.address)
    ++ (codes "; " ++ (class_name stated ++ codes " is stated")))))

-- which way the word went, where this one is stated
abbrev pub way_text : (stated : Taken) → List ℕ
way_text Always = codes "passed over, and stated always to be done"
way_text Never = codes "done, and stated never to be"

-- of a word for which at most so many cycles are stated
abbrev pub stray_text : (stated : ℕ) → Stray → List ℕ
stray_text stated stray.OtherWord = codes "fetches another word than the source's"
stray_text stated (stray.Exception vector) = codes "exception " ++ exception_name vector
stray_text stated (stray.Stopped why) = codes "stopped " ++ why_name why
stray_text stated (stray.OtherWay taken) = way_text taken
stray_text stated (stray.OtherClass access class) = access_text class access
stray_text stated (stray.MoreCycles cycles) =
    decimal cycles ++ (codes " cycles; " ++ (decimal stated ++ codes " stated"))
stray_text stated (stray.Elsewhere to) = codes "went to " ++ (hex to ++ codes ", which is not stated")

abbrev pub times_text : ℕ → List ℕ
times_text n = if nat_eq n 1 then codes "once" else decimal n ++ codes " times"

abbrev pub turned_text : (bound : ℕ) → List ℕ
turned_text bound =
    codes "turned back " ++ (times_text (bound + 1) ++ (codes "; " ++ (decimal bound ++ codes " stated")))

-- of the step at the address
abbrev pub why_text : Stated → (at : ℕ) → Unkept → List ℕ
why_text st at unkept.NotAtEntry = codes "not the entry, which is " ++ hex st.entry
why_text st at (unkept.Stray stray) = stray_text (cycles_at st at) stray
why_text st at (unkept.TurnedBack span) = turned_text span.bound
why_text st at unkept.Unfinished = codes "the steps end inside the handler"

-- ## The step

abbrev pub line_text : Option ℕ → List ℕ
line_text None = []
line_text (Some line) = codes ", line " ++ decimal line

-- its number from 0, as the events of a machine file have it, its address and its line, and why
abbrev pub strayed_text : (steps at : ℕ) → (line : Option ℕ) → (why : List ℕ) → List ℕ
strayed_text steps at line why =
    codes "step "
    ++ (decimal steps
    ++ (codes ", " ++ (hex at ++ (line_text line ++ (codes ": " ++ (why ++ codes "\n"))))))

-- ## The line

-- the number of the line of a text that has a word at the address; an image has no lines
pub record IsLineNumberAt (source : File) (address : ℕ) (line : Option ℕ) : Type 0 where
  pub read : Source
  pub is_read : IsSource source read
  pub line_is : line ≡ option_map (λ l. l.number) (line_of read address)

-- ## What a run that keeps the statement takes for granted

-- one of the steps does the word at the address
abbrev pub IsDoneAt : Flow → List Pass → ℕ → Type 0
IsDoneAt flow passes a =
    (p : Pass) × Contains passes p × (p.done ≡ true) × (is_at a (place_at flow.places p.place) ≡ true)

-- the returns and ways out of which an explanation warns, of the words alone that the steps do
pub record AreWarnings (source : File) (words : Words) (st : Stated) (flow : Flow) (passes : List Pass)
    (text : List ℕ) : Type 0 where
  pub read : Source
  pub is_read : IsSource source read
  pub words_are : read.image ≡ words
  pub are_done : AreDoneReturns read words st flow (IsDoneAt flow passes) text

-- ## Where a run that keeps the statement goes on

abbrev pub left_line : (at : ℕ) → (line : Option ℕ) → List ℕ
left_line at line = codes "left to " ++ (hex at ++ (line_text line ++ codes ", a word of the source\n"))

-- a line where the source has a word at the address, and nothing where it has none
abbrev pub IsLeftText : (source : File) → Words → (at : ℕ) → (text : List ℕ) → Type 0
IsLeftText source words at text =
    MatchOption (word_of words at) (text ≡ [])
    (λ _. (line : Option ℕ) × IsLineNumberAt source at line × (text ≡ left_line at line))
