-- The entries of a statement without effect on a bound.
use Rattle.std.specs.Prelude.{◌≡◌, ◌⊎◌, ℕ, Bool, true, not, ◌&&◌, nat_le, List, [], ◌++◌, codes}
use Rattle.std.specs.Prelude.{count_by, decimal, map, if◌then◌else◌}
use Rattle.std.specs.List.{list_any}
use Rattle.std.specs.Map.{keys_of}
use Rattle.arm2_decode.specs.Names.{is_always, is_never}
use Rattle.arm2_decode.specs.Writers.{is_transfer}
use Rattle.arm2_decode.specs.declared.names.Cond.{Cond}
use Rattle.asm_text.specs.Hex.{hex8}
use Rattle.control_flow.specs.Edges.{HasAction}
use Rattle.control_flow.specs.Flow.{Flow}
use Rattle.control_flow.specs.Kinds.{is_multiply}
use Rattle.control_flow.specs.declared.actions.Action.{Action}
use Rattle.image.specs.Image.{Words}
use Rattle.loop_bounds.specs.Instance.{is_back_edge_of}
use Rattle.statement.specs.Stated.{Stated}
use Rattle.statement.specs.declared.apart.ApartStretch.{ApartStretch}
use Rattle.statement.specs.declared.stated.BaseRule.{BaseRule}
use Rattle.statement.specs.declared.stated.Loop.{Loop}
use Rattle.word_shapes.specs.Words.{HasShape}
use Rattle.text_rows.specs.Rows.{AreRows, section}
use Rattle.text_explained.specs.Leaving.{is_carried_out}
use Rattle.text_explained.specs.Rules.{IsCovered, part_text, register_text}
use Rattle.text_explained.specs.Taken.{is_reached}
use Rattle.text_explained.specs.declared.idle.Entry.{Entry}
use Rattle.text_explained.specs.declared.idle.Entry.TheVariants.{Target, Access, Multiply, Branch}

-- ## Which entries have an effect

-- a loop has an effect on a bound where an edge of the graph turns back in it
abbrev pub LoopCounts : List ApartStretch → Flow → Loop → Type 0
LoopCounts apart flow l = list_any (is_back_edge_of apart l) flow.edges ≡ true

-- an address from the loop's first to its last is in the stretch
abbrev pub reaches : ApartStretch → Loop → Bool
reaches s l = nat_le l.first s.last && nat_le s.first l.last

-- a stretch apart, where a loop reaches it: else its words are in no loop, apart or not
abbrev pub StretchCounts : List Loop → ApartStretch → Type 0
StretchCounts loops s = list_any (reaches s) loops ≡ true

-- a rule, where it covers a word that is carried out
abbrev pub RuleCounts : Words → Stated → Flow → BaseRule → Type 0
RuleCounts words st flow r = (a : ℕ) × (is_carried_out flow.edges a ≡ true) × IsCovered words st r a

abbrev pub has_condition : Cond → Bool
has_condition c = not (is_always c) && not (is_never c)

-- the image has a word at the address that has a condition: not AL, and not NV
abbrev pub IsConditional : Words → ℕ → Type 0
IsConditional words a = (action : Action) × HasAction words a action × (has_condition action.cond ≡ true)

-- a target, where the word is carried out; a class, where such a word loads or stores; the cycles of a
-- multiply, where such a word is one; and the way of a branch, where a place is and the word has a condition
abbrev pub EntryCounts : Words → (done reached : ℕ → Bool) → Entry → ℕ → Type 0
EntryCounts words done reached Target a = done a ≡ true
EntryCounts words done reached Access a = (done a ≡ true) × HasShape is_transfer words a
EntryCounts words done reached Multiply a = (done a ≡ true) × HasShape is_multiply words a
EntryCounts words done reached Branch a = (reached a ≡ true) × IsConditional words a

-- ## Which entries are said together

-- an address for each entry, of a loop its header's; stretches and rules, which name several, are left out
abbrev pub entry_addresses : Stated → List ℕ
entry_addresses st =
    map (λ l. l.header) st.loops.list
    ++ (keys_of st.targets ++ (keys_of st.accesses ++ (keys_of st.multiplies ++ keys_of st.branches)))

-- how many of the addresses are never reached, each as often as it is there
abbrev pub count_unreached : (reached : ℕ → Bool) → (addresses : List ℕ) → ℕ
count_unreached reached addresses = count_by (λ a. not (reached a)) addresses

-- how many entries name an address that is never reached
abbrev pub unreached_entries : Stated → Flow → ℕ
unreached_entries st flow = count_unreached (is_reached flow.places) (entry_addresses st)

-- four or more are said together
abbrev pub are_together : ℕ → Bool
are_together n = nat_le 4 n

-- the entry of the address is said together with others
abbrev pub is_with_others : (together : Bool) → (reached : ℕ → Bool) → ℕ → Bool
is_with_others together reached a = together && not (reached a)

-- whether the row of those together stands for an entry of the address
abbrev pub in_together_row : Stated → Flow → ℕ → Bool
in_together_row st flow = is_with_others (are_together (unreached_entries st flow)) (is_reached flow.places)

-- ## Rows

-- an address between two texts
abbrev pub between : List ℕ → ℕ → List ℕ → List ℕ
between front a back = front ++ (hex8 a ++ back)

abbrev pub loop_row : ℕ → List ℕ
loop_row header = between (codes "  loop    ") header (codes "  nothing turns back to the header\n")

abbrev pub ends_text : ApartStretch → List ℕ
ends_text s = hex8 s.first ++ (codes " to " ++ hex8 s.last)

abbrev pub stretch_row : ApartStretch → List ℕ
stretch_row s = codes "  apart   " ++ (ends_text s ++ codes "  lies among no loop's addresses\n")

abbrev pub rule_row : BaseRule → List ℕ
rule_row r =
    codes "  base    "
    ++ (register_text r.register
    ++ (codes " from " ++ (part_text r ++ codes "  no load or store there takes its class\n")))

abbrev pub front_of : Entry → List ℕ
front_of Target = codes "  target  "
front_of Access = codes "  access  "
front_of Multiply = codes "  multiply  "
front_of Branch = codes "  branch  "

abbrev pub back_of : Entry → List ℕ
back_of Target = codes "  no word is carried out there\n"
back_of Access = codes "  no load or store is carried out there\n"
back_of Multiply = codes "  no multiply is carried out there\n"
back_of Branch = codes "  no word with a condition is reached there\n"

-- of an entry that names the address of a word
abbrev pub entry_row : Entry → ℕ → List ℕ
entry_row entry a = between (front_of entry) a (back_of entry)

-- the row of an entry without effect; one with an effect has none
pub record IsIdleRow (Counts : Type 0) (shown row : List ℕ) : Type 0 where
  pub without : (Counts → ⊥) → row ≡ shown
  pub with_one : Counts → row ≡ []

-- nor has one that is said together with others
abbrev pub IsOwnRow : (Counts : Type 0) → (with_others : Bool) → (shown row : List ℕ) → Type 0
IsOwnRow Counts with_others = IsIdleRow (Counts ⊎ (with_others ≡ true))

abbrev pub IsLoopRow : List ApartStretch → Flow → (others : ℕ → Bool) → Loop → List ℕ → Type 0
IsLoopRow apart flow others l = IsOwnRow (LoopCounts apart flow l) (others l.header) (loop_row l.header)

abbrev pub IsStretchRow : List Loop → ApartStretch → List ℕ → Type 0
IsStretchRow loops s = IsIdleRow (StretchCounts loops s) (stretch_row s)

abbrev pub IsRuleRow : Words → Stated → Flow → BaseRule → List ℕ → Type 0
IsRuleRow words st flow r = IsIdleRow (RuleCounts words st flow r) (rule_row r)

abbrev pub IsEntryRow : Words → (done reached others : ℕ → Bool) → Entry → ℕ → List ℕ → Type 0
IsEntryRow words done reached others entry a =
    IsOwnRow (EntryCounts words done reached entry a) (others a) (entry_row entry a)

abbrev pub together_words : List ℕ
together_words = codes " entries name addresses that are never reached: is a [[target]] missing?\n"

-- how many are said together, where they are; else nothing
abbrev pub together_row : ℕ → List ℕ
together_row n =
    if are_together n
    then codes "  " ++ (decimal n ++ together_words)
    else []

-- ## The text

-- the rows of those of the entries without effect
abbrev pub AreEntryRows : Words → Flow → (others : ℕ → Bool) → Entry → (addresses rows : List ℕ) → Type 0
AreEntryRows words flow others entry =
    AreRows (IsEntryRow words (is_carried_out flow.edges) (is_reached flow.places) others entry)

-- the rows of exactly the loops, the stretches apart, the targets, the accesses, the rules, the multiplies
-- and the branches without effect, each kind in the statement's order, but for those that are said together
pub record AreIdleRows (words : Words) (st : Stated) (flow : Flow) (rows : List ℕ) : Type 0 where
  pub loops : List ℕ
  pub stretches : List ℕ
  pub targets : List ℕ
  pub accesses : List ℕ
  pub rules : List ℕ
  pub multiplies : List ℕ
  pub branches : List ℕ
  pub are_loops : AreRows (IsLoopRow st.loops.apart flow (in_together_row st flow)) st.loops.list loops
  pub are_stretches : AreRows (IsStretchRow st.loops.list) st.loops.apart stretches
  pub are_targets : AreEntryRows words flow (in_together_row st flow) Target (keys_of st.targets) targets
  pub are_accesses : AreEntryRows words flow (in_together_row st flow) Access (keys_of st.accesses) accesses
  pub are_rules : AreRows (IsRuleRow words st flow) st.rules rules
  pub are_multiplies : AreEntryRows words flow (in_together_row st flow) Multiply (keys_of st.multiplies)
      multiplies
  pub are_branches : AreEntryRows words flow (in_together_row st flow) Branch (keys_of st.branches) branches
  pub rows_are : rows
      ≡ loops
      ++ (stretches
      ++ (targets
      ++ (accesses
      ++ (rules
      ++ (multiplies
      ++ (branches ++ together_row (unreached_entries st flow)))))))

abbrev pub idle_heading : List ℕ
idle_heading = codes "\nEntries of the statement without effect:\n"

-- those rows under their heading; nothing where there are none
abbrev pub AreIdleEntries : Words → Stated → Flow → List ℕ → Type 0
AreIdleEntries words st flow text =
    (rows : List ℕ) × AreIdleRows words st flow rows × (text ≡ section idle_heading rows)
