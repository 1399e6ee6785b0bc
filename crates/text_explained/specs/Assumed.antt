-- What a bound takes for granted of words that its handler reaches.
use Rattle.std.specs.Prelude.{◌≡◌, ◌↔◌, ℕ, ◌==◌, Bool, true, false, ◌||◌, List}
use Rattle.std.specs.Prelude.{[], ◌++◌, codes}
use Rattle.std.specs.Prelude.{if◌then◌else◌, Contains, None, ◌⊎◌}
use Rattle.std.specs.List.{list_any}
use Rattle.std.specs.List.Sorted.{IsStrictlySortedBy}
use Rattle.std.specs.Ordering.{nat_cmp}
use Rattle.arm2_decode.specs.Writers.{is_transfer}
use Rattle.arm2_decode.specs.declared.instr.Instr.{Instr}
use Rattle.bus_ticks.specs.declared.profile.Class.TheVariants.{Any}
use Rattle.control_flow.specs.Flow.{Flow}
use Rattle.control_flow.specs.Kinds.{base_of}
use Rattle.image.specs.Image.{Words}
use Rattle.sources.specs.Rows.{AreSourceRows}
use Rattle.sources.specs.declared.read.Source.{Source}
use Rattle.statement.specs.Stated.{Stated, class_at, target_of}
use Rattle.word_shapes.specs.Shapes.{is_odd_writer, leaves_flags}
use Rattle.word_shapes.specs.Words.{HasInstr, HasShape}
use Rattle.control_flow.specs.declared.places.Place.{Place}
use Rattle.text_explained.specs.Doing.{MayDoShape, may_do_shape}
use Rattle.text_explained.specs.Leaving.{is_left_on}
use Rattle.text_explained.specs.Links.{AreLostLinks}
use Rattle.text_rows.specs.Lines.{rows_by_word}
use Rattle.text_rows.specs.Rows.{IsShownRow, named_row, section}
use Rattle.text_explained.specs.Taken.{is_at, is_reached}
use Rattle.text_explained.specs.declared.assumptions.Assumption.{Assumption}
use Rattle.text_explained.specs.declared.assumptions.Assumption.TheVariants.{LeavesFlags, LooseTransfer}
use Rattle.text_explained.specs.declared.assumptions.Assumption.TheVariants.{TakenForReturn}
use Rattle.text_explained.specs.declared.caveats.Caveat.{Caveat}
use Rattle.text_explained.specs.declared.caveats.Caveat.TheVariants.{Assumed, LinkLost}
use Rattle.text_explained.specs.declared.leaving.EdgeKind.TheVariants.{LeadsOut}
use Rattle.text_explained.specs.declared.links.Overwrite.{Overwrite}
use Rattle.text_explained.specs.declared.links.Overwrite.TheVariants.{ByAddress, ByCall}

-- ## What is assumed

-- a load or a store that may be to any address, as far as the statement says
pub record IsLoose (st : Stated) (a : ℕ) (i : Instr) : Type 0 where
  pub transfers : may_do_shape is_transfer st a i ≡ true
  pub loose : class_at st a (base_of i.operation) ≡ Any

abbrev pub IsLooseTransfer : Words → Stated → ℕ → Type 0
IsLooseTransfer image st a = (i : Instr) × HasInstr image a i × IsLoose st a i

-- a word that counts as a return but does not look like one, since nothing is stated of it
pub record IsTakenForReturn (image : Words) (st : Stated) (a : ℕ) : Type 0 where
  pub writes : MayDoShape is_odd_writer image st a
  pub unstated : target_of st a ≡ None

-- the processor enters there when it takes IRQ (18), or FIQ (1C)
abbrev pub is_interrupt_vector : ℕ → Bool
is_interrupt_vector a = (a == 24) || (a == 28)

-- a word that leaves a handler of these, and restores no flags
pub record IsLeftWithoutFlags (image : Words) (st : Stated) (flow : Flow) (a : ℕ) : Type 0 where
  pub entered : is_interrupt_vector st.entry ≡ true
  pub left : is_left_on LeadsOut flow.edges a ≡ true
  pub flags : HasShape leaves_flags image a

-- what is assumed of the word at an address
abbrev pub Assumes : Words → Stated → Flow → Assumption → ℕ → Type 0
Assumes image st flow LooseTransfer a = IsLooseTransfer image st a
Assumes image st flow TakenForReturn a = IsTakenForReturn image st a
Assumes image st flow LeavesFlags a = IsLeftWithoutFlags image st flow a

-- exactly those addresses where the graph has a place and that is assumed, ascending
pub record AreAssumed (image : Words) (st : Stated) (flow : Flow) (what : Assumption)
    (named : List ℕ) : Type 0 where
  pub ascending : IsStrictlySortedBy nat_cmp named
  pub each : (a : ℕ) → Contains named a
      ↔ ((is_reached flow.places a ≡ true) × Assumes image st flow what a)

-- exactly the words of which that caveat is to be told
abbrev pub AreSubjectTo : Words → Stated → Flow → Caveat → List ℕ → Type 0
AreSubjectTo image st flow (Assumed what) = AreAssumed image st flow what
AreSubjectTo image st flow (LinkLost by) = AreLostLinks image st flow by

-- ## Finding them

-- the set has one of the place's address too, if that is assumed of it
abbrev pub Notes : (ℕ → Type 0) → Place → (old new : ℕ → Bool) → Type 0
Notes Holds place old new = (a : ℕ) → (new a ≡ true) ↔ ((old a ≡ true) ⊎ ((is_at a place ≡ true) × Holds a))

-- ## Lines

abbrev pub row_if_named : (named : List ℕ) → (n : ℕ) → (text : List ℕ) → (at : ℕ) → List ℕ
row_if_named named n text at = if list_any (λ a. a == at) named then named_row 0 at n text else []

-- the row of an image's word if it is named, else nothing
pub record IsNamedRow (named : List ℕ) (e : ℕ × ℕ) (row : List ℕ) : Type 0 where
  pub named_one : list_any (λ a. a == e.0) named ≡ true → IsShownRow 0 e row
  pub other : list_any (λ a. a == e.0) named ≡ false → row ≡ []

-- the rows of the named words, of a text line by line, with numbers from one on
abbrev pub AreNamedRows : Source → (named rows : List ℕ) → Type 0
AreNamedRows source named = AreSourceRows (rows_by_word (row_if_named named)) (IsNamedRow named) source

-- ## Texts

-- above the rows of the words of which that is assumed
abbrev pub heading_of : Assumption → List ℕ
heading_of TakenForReturn =
    codes "\nWARNING: these count as returns but do not look like returns (see [[target]]):\n"
heading_of LeavesFlags =
    codes "\nWARNING: these leave the handler of an interrupt and restore no flags (no S, no ^):\n"
heading_of LooseTransfer = codes "\nLoads and stores that may be anywhere (see [[access]]):\n"

-- above the rows of the words that return by an R14 that was overwritten so
abbrev pub lost_heading : Overwrite → List ℕ
lost_heading ByCall = codes "\nWARNING: these return by R14 after a call has overwritten it:\n"
lost_heading ByAddress =
    codes "\nWARNING: these return by R14 after an address of the source was put into it:\n"

-- above the rows of the words with that caveat
abbrev pub caveat_heading : Caveat → List ℕ
caveat_heading (Assumed what) = heading_of what
caveat_heading (LinkLost by) = lost_heading by

-- under a heading the rows of exactly the words that are named so
pub record IsSection (source : Source) (heading : List ℕ) (AreNamed : List ℕ → Type 0)
    (text : List ℕ) : Type 0 where
  pub named : List ℕ
  pub rows : List ℕ
  pub are_named : AreNamed named
  pub are_rows : AreNamedRows source named rows
  pub text_is : text ≡ section heading rows

-- the words of an image that count as returns, then those that restore no flags, then those that return by an
-- R14 that a call or an address has overwritten, and then the loads and stores, by the lines of a source
pub record AreAssumptions (source : Source) (image : Words) (st : Stated) (flow : Flow)
    (text : List ℕ) : Type 0 where
  pub returns : List ℕ
  pub flags : List ℕ
  pub called : List ℕ
  pub addressed : List ℕ
  pub transfers : List ℕ
  pub are_returns : IsSection source (heading_of TakenForReturn)
      (AreAssumed image st flow TakenForReturn) returns
  pub are_flags : IsSection source (heading_of LeavesFlags)
      (AreAssumed image st flow LeavesFlags) flags
  pub are_called : IsSection source (lost_heading ByCall) (AreLostLinks image st flow ByCall) called
  pub are_addressed : IsSection source (lost_heading ByAddress)
      (AreLostLinks image st flow ByAddress) addressed
  pub are_transfers : IsSection source (heading_of LooseTransfer)
      (AreAssumed image st flow LooseTransfer) transfers
  pub text_is : text ≡ returns ++ (flags ++ (called ++ (addressed ++ transfers)))

-- ## Of what a run has done

-- of the addresses that are named so exactly those whose word is done, ascending
pub record AreDone (IsDone : ℕ → Type 0) (AreNamed : List ℕ → Type 0) (named : List ℕ) : Type 0 where
  pub all : List ℕ
  pub are_named : AreNamed all
  pub ascending : IsStrictlySortedBy nat_cmp named
  pub each : (a : ℕ) → Contains named a ↔ (Contains all a × IsDone a)

-- the words of an image that are done of those that count as returns, that restore no flags, and that return
-- by an R14 that a call or an address has overwritten, by the lines of a source
pub record AreDoneReturns (source : Source) (image : Words) (st : Stated) (flow : Flow) (IsDone : ℕ → Type 0)
    (text : List ℕ) : Type 0 where
  pub returns : List ℕ
  pub flags : List ℕ
  pub called : List ℕ
  pub addressed : List ℕ
  pub are_returns : IsSection source (heading_of TakenForReturn)
      (AreDone IsDone (AreAssumed image st flow TakenForReturn)) returns
  pub are_flags : IsSection source (heading_of LeavesFlags)
      (AreDone IsDone (AreAssumed image st flow LeavesFlags)) flags
  pub are_called : IsSection source (lost_heading ByCall)
      (AreDone IsDone (AreLostLinks image st flow ByCall)) called
  pub are_addressed : IsSection source (lost_heading ByAddress)
      (AreDone IsDone (AreLostLinks image st flow ByAddress)) addressed
  pub text_is : text ≡ returns ++ (flags ++ (called ++ addressed))
