-- The text of a draft, of what was found.
use Rattle.std.specs.Prelude.{ℕ, zero, suc, Bool, true, false, ◌*◌, ◌+◌, ◌==◌, if◌then◌else◌, List, []}
use Rattle.std.specs.Prelude.{◌∷◌, ◌++◌, length}
use Rattle.std.specs.Prelude.{replicate}
use Rattle.std.specs.Prelude.{codes, decimal, Option, Some, None}
use Rattle.std.specs.BTreeMap.{BTreeMap, get}
use Rattle.std.specs.List.{flat_map}
use Rattle.std.specs.Ordering.{nat_cmp}
use Rattle.asm_text.specs.Hex.{hex8}
use Rattle.bus_ticks.specs.declared.profile.Class.{Class}
use Rattle.bus_ticks.specs.declared.profile.Class.TheVariants.{Any}
use Rattle.bus_ticks.specs.Prices.{ahead_of}
use Rattle.statement.specs.Statement.{class_name}
use Rattle.statement.specs.declared.apart.ApartStretch.{ApartStretch}
use Rattle.text_rows.specs.Addresses.{name_text}
use Rattle.text_rows.specs.declared.line_labels.SourceLine.{SourceLine}
use Rattle.arm2_decode.specs.Names.{register_number}
use Rattle.arm2_decode.specs.declared.names.Register.{Register}
use Rattle.text_draft.specs.Rows.{line_label, row}
use Rattle.text_draft.specs.declared.accesses.FoundAccess.{FoundAccess}
use Rattle.text_draft.specs.declared.ends.End.{End}
use Rattle.text_draft.specs.declared.ends.End.TheVariants.{NoWord, Unallocated, Trap}
use Rattle.text_draft.specs.declared.found_loop.FoundLoop.{FoundLoop}
use Rattle.text_draft.specs.declared.grounds.Ground.{Ground}
use Rattle.text_draft.specs.declared.grounds.Ground.TheVariants.{Word, Proof, Pattern}
use Rattle.text_draft.specs.Targets.{any_open}
use Rattle.text_draft.specs.declared.pc_writers.FoundTarget.{FoundTarget}
use Rattle.text_draft.specs.declared.rules.FoundRule.{FoundRule}
use Rattle.text_draft.specs.declared.pc_writers.Way.{Way}
use Rattle.text_draft.specs.declared.pc_writers.Way.TheVariants.{Call, Jump, Return}

-- the class that is written: one that rests on a pattern alone is left to the author
abbrev pub written : Class → Ground → Class
written class Word = class
written class Proof = class
written class Pattern = Any

-- what a class rests on, as a comment
abbrev pub ground_text : Class → Ground → List ℕ
ground_text class Word = []
ground_text class Proof = codes "  # proved"
ground_text class Pattern = codes "  # looks like \"" ++ (class_name class ++ codes "\"")

-- the end of an access
abbrev pub class_text : Class → Ground → List ℕ
class_text class basis =
    codes ", class = \"" ++ (class_name (written class basis) ++ (codes "\"}," ++ ground_text class basis))

abbrev pub register_text : Register → List ℕ
register_text register = codes "R" ++ decimal (register_number register)

-- where a word is: in a line, or at an address that has none
abbrev pub spot_text : Option SourceLine → ℕ → List ℕ
spot_text None at = codes "at " ++ hex8 at
spot_text (Some line) at = codes "in line " ++ decimal line.number

-- what a draft says of an end
abbrev pub end_words : End → List ℕ
end_words NoWord = codes ": reached, and no word is there."
end_words Unallocated = codes ": reached, and the word is no instruction."
end_words Trap = codes ": reached, and the word is a SWI or undefined."

-- a bound, that many columns in: a question mark, or the number that is proved. One that the words suggest
-- alone is a comment
abbrev pub bound_text : ℕ → (proved : Bool) → Option ℕ → List ℕ
bound_text indent proved None = replicate indent 32 ++ codes "bound = \"?\"\n"
bound_text indent true (Some turns) =
    replicate indent 32 ++ (codes "bound = " ++ (decimal turns ++ codes "  # proved\n"))
bound_text indent false (Some turns) =
    replicate indent 32 ++ (codes "bound = \"?\"  # looks like " ++ (decimal turns ++ codes "\n"))

-- what a draft says that looked at as many addresses as it may
abbrev pub full_text : Bool → List ℕ
full_text true = codes "# It ends after 16384 addresses: what else is reached is left out.\n"
full_text false = []

-- so many addresses of words, from one on
abbrev pub words_from : ℕ → ℕ → List ℕ
words_from at zero = []
words_from at (suc more) = at ∷ words_from (ahead_of at 4) more

-- ## What is at the addresses

module _ (lines : BTreeMap ℕ SourceLine) where
  -- a key and an address, that many columns in
  abbrev pub place_text : ℕ → List ℕ → ℕ → List ℕ
  place_text indent key at =
      row (replicate indent 32 ++ (key ++ (codes " = " ++ name_text (line_label (get nat_cmp lines at)) at)))
      (get nat_cmp lines at)

  -- an address between two texts
  abbrev pub element_text : List ℕ → ℕ → List ℕ → List ℕ
  element_text front at back =
      row (front ++ (name_text (line_label (get nat_cmp lines at)) at ++ back)) (get nat_cmp lines at)

  -- a comment on an address
  abbrev pub comment_text : ℕ → List ℕ → List ℕ
  comment_text at words = row (codes "# " ++ (hex8 at ++ words)) (get nat_cmp lines at)

  abbrev pub end_text : ℕ × End → List ℕ
  end_text e = comment_text e.0 (end_words e.1)

  abbrev pub cycle_text : ℕ → List ℕ
  cycle_text at = comment_text at (codes ": a cycle that no loop bounds.")

  -- a stretch of words apart, in two rows
  abbrev pub stretch_text : ApartStretch → List ℕ
  stretch_text s =
      element_text (codes "  [") s.first (codes ",") ++ element_text (codes "   ") s.last (codes "],")

  abbrev pub stretch_list_text : List ApartStretch → List ℕ
  stretch_list_text stretches =
      codes "\n# Words that belong to no loop among whose addresses they lie:\napart = [\n"
      ++ (flat_map stretch_text stretches ++ codes "]\n")

  -- all stretches, if there are any
  abbrev pub apart_text : List ApartStretch → List ℕ
  apart_text stretches = if length stretches == 0 then [] else stretch_list_text stretches

  -- a rule for a base register, and as a comment what it stands for
  abbrev pub rule_text : FoundRule → List ℕ
  rule_text r =
      codes "  {register = \"" ++ (register_text r.register ++ (codes "\"" ++ (class_text r.class r.basis
      ++ (codes "  # " ++ (decimal r.count ++ (codes " loads and stores, the first "
      ++ (spot_text (get nat_cmp lines r.first) r.first ++ codes "\n")))))))

  abbrev pub rule_list_text : List FoundRule → List ℕ
  rule_list_text rules =
      codes "# By a base register, where they have no access of their own:\nbase = [\n"
      ++ (flat_map rule_text rules ++ codes "]\n")

  -- all rules, if there are any
  abbrev pub rules_text : List FoundRule → List ℕ
  rules_text rules = if length rules == 0 then [] else rule_list_text rules

  abbrev pub entry_text : FoundAccess → List ℕ
  entry_text e = element_text (codes "  {at = ") e.at (class_text e.class e.basis)

  abbrev pub entry_list_text : List FoundAccess → List ℕ
  entry_list_text entries = codes "access = [\n" ++ (flat_map entry_text entries ++ codes "]\n")

  -- all entries, if there are any
  abbrev pub entries_text : List FoundAccess → List ℕ
  entries_text entries = if length entries == 0 then [] else entry_list_text entries

  abbrev pub access_lists_text : List FoundRule → List FoundAccess → List ℕ
  access_lists_text rules entries =
      codes "\n# What loads and stores reach: \"any\", \"ram\", \"rom\" or \"io\"; for devices of one speed\n"
      ++ (codes "# \"slow\", \"medium\", \"fast\" or \"synchronous\".\n"
      ++ (rules_text rules ++ entries_text entries))

  -- the rules and the entries of loads and stores, if there are any
  abbrev pub accesses_text : List FoundRule → List FoundAccess → List ℕ
  accesses_text rules entries =
      if length rules + length entries == 0 then [] else access_lists_text rules entries

  -- a loop, further in by two columns for each loop around it
  abbrev pub loop_text : FoundLoop → List ℕ
  loop_text l =
      codes "\n" ++ (replicate (2 * l.depth) 32 ++ (codes "[[loop]]\n"
      ++ (place_text (2 * l.depth) (codes "header") l.header
      ++ (place_text (2 * l.depth) (codes "first") l.first
      ++ (place_text (2 * l.depth) (codes "last") l.last ++ bound_text (2 * l.depth) l.proved l.turns)))))

  abbrev pub destination_text : ℕ → List ℕ
  destination_text at = element_text (codes "  ") at (codes ",")

  -- the branches of a table, or what to write
  abbrev pub destinations_text : ℕ → ℕ → List ℕ
  destinations_text table branches =
      if branches == 0 then
      codes "to = \"?\"  # a list, or nothing for a return or a leave; then draft from this statement\n"
      else codes "to = [\n"
      ++ (flat_map destination_text (words_from table branches)
      ++ codes "  \"?\",  # what else it may reach, or nothing\n]\n")

  -- what is written of a word that writes R15
  abbrev pub way_text : Way → ℕ → ℕ → List ℕ
  way_text Return at branches = codes "kind = \"return\"\n"
  way_text Jump at branches =
      codes "kind = \"jump\"  # or \"call\", \"return\", \"leave\"\n"
      ++ destinations_text (ahead_of at 8) branches
  way_text Call at branches =
      codes "kind = \"call\"  # or \"jump\", \"return\", \"leave\"\n"
      ++ destinations_text (ahead_of at 8) branches

  abbrev pub target_text : FoundTarget → List ℕ
  target_text t =
      codes "\n[[target]]\n" ++ (place_text 0 (codes "at") t.at ++ way_text t.way t.at t.branches)

  -- what to do, the entry, and what may be stated of where the handler leaves to, and that all else is
  abbrev pub head_text : ℕ → List ℕ
  head_text entry =
      codes "# A draft, of what the words show. Write something for each \"?\". A bound counts\n"
      ++ (codes "# turns back: of a loop that runs eight times seven.\n"
      ++ (place_text 0 (codes "entry") entry
      ++ (codes "# leave = \"ram\"  # where it returns to, if always to one: \"ram\", \"rom\" or \"io\"\n"
      ++ codes "returns = \"stated\"\n")))

  abbrev pub candidate_text : ℕ → List ℕ
  candidate_text at = element_text (codes "#   ") at []

  abbrev pub candidate_list_text : (side : List ℕ) → List ℕ → List ℕ
  candidate_list_text side candidates =
      codes "\n# The words name these addresses of the source, to which a \"?\" "
      ++ (side ++ (codes " may lead:\n" ++ flat_map candidate_text candidates))

  -- where words may lead of which it is left open, to that side of the text
  abbrev pub candidates_text : (side : List ℕ) → (open_left : Bool) → List ℕ → List ℕ
  candidates_text side true candidates =
      if length candidates == 0 then [] else candidate_list_text side candidates
  candidates_text side false candidates = []

  -- the whole text
  abbrev pub draft_text : ℕ → (full : Bool) → (ends : List (ℕ × End)) → (cycles : List ℕ)
      → (apart : List ApartStretch) → (rules : List FoundRule) → (entries : List FoundAccess)
      → (loops : List FoundLoop) → (candidates : List ℕ) → (targets : List FoundTarget) → List ℕ
  draft_text entry full ends cycles apart rules entries loops candidates targets =
      head_text entry ++ (full_text full ++ (flat_map end_text ends ++ (flat_map cycle_text cycles
      ++ (apart_text apart ++ (accesses_text rules entries
      ++ (flat_map loop_text loops
      ++ (candidates_text (codes "below") (any_open targets) candidates
      ++ flat_map target_text targets)))))))
