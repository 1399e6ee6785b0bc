-- Lists of tables that are read: of their numbers no two may be the same.
use Rattle.std.proofs.Common.{◌≡◌, ℕ, ◌≤◌, ◌⊎◌, ◌↔◌, true, false, List, [], Some, refl, sym, ap, subst, ◌∙◌, arith}
use Rattle.std.specs.Map.{keys_of}
use Rattle.toml.specs.Data.{Data, Members, get_member}
use Rattle.toml_reading.specs.Documents.{are_distinct, once, tables_at}
use Rattle.toml_reading.specs.Lowest.{AtKey, AtKeyOr, IsListOf, ListFault, entries_at, number_of_entry, numbers_at}
use Rattle.toml_reading.specs.Readings.{and_then}
use Rattle.toml_reading.proofs.LowestLemmas.{Judges, and_then_judged, judged_as, one_test}
use Rattle.toml_reading.proofs.LowestParts.{entries_state, numbers_read, tables_judged}
use Rattle.machine_file.specs.MachineFaults.{machine_faults, number_of}
use Rattle.machine_file.specs.MachineFile.{Read}
use Rattle.machine_file.specs.declared.machine_faults.MachineFileFault.{MachineFileFault}
use Rattle.machine_file.specs.declared.machine_faults.MachineFileFault.TheVariants.{Twice}
use Rattle.machine_file.proofs.MachineValueLemmas.{IsLow, list_low, some_low}

-- each table at `key` is an entry with its number at `number`
module _ {A : Type 0} (IsEntry : Data → ℕ × A → Type 0) (EntryFault : Data → MachineFileFault → Type 0) (entry_at : Data → Read (ℕ × A))
    (entry_judged : (d : Data) → Judges machine_faults (IsEntry d) (EntryFault d) (entry_at d))
    (entry_low : (f : MachineFileFault) (d : Data) → EntryFault d f → IsLow f) (number : List ℕ)
    (entry_number : (d : Data) (e : ℕ × A) → IsEntry d e → number_of_entry number d ≡ Some e.0) (key : List ℕ) (ms : Members) where
  abbrev Listed : List (ℕ × A) → Type 0
  Listed es = AtKeyOr key ms (es ≡ []) (λ d. IsListOf IsEntry d es)

  abbrev ListedFault : MachineFileFault → Type 0
  ListedFault f = AtKey key ms (λ d. ListFault machine_faults EntryFault d f)

  abbrev IsTwice : Type 0
  IsTwice = are_distinct (numbers_at number (entries_at key ms)) ≡ false

  abbrev TwiceFault : MachineFileFault → Type 0
  TwiceFault f = IsTwice × (f ≡ Twice)

  twice_iff : (es : List (ℕ × A)) → Listed es → are_distinct (keys_of es) ≡ false ↔ IsTwice
  twice_iff es s =
      let same : numbers_at number (entries_at key ms) ≡ keys_of es =
      numbers_read IsEntry number (λ (e : ℕ × A). e.0) entry_number (entries_at key ms) es (entries_state IsEntry key ms es s) in
      (λ e. ap are_distinct same ∙ e, λ e. ap are_distinct (sym same) ∙ e)

  twice_higher : (x y : MachineFileFault) → ListedFault x → TwiceFault y → number_of x ≤ number_of y
  twice_higher x y h late =
      let low = some_low x _ (list_low x EntryFault (entry_low x)) (get_member key ms) h in
      let r : number_of y ≡ 6 = ap number_of late.1 in
      omega (arith, low, r)

  abbrev OnceListed : List (ℕ × A) → Type 0
  OnceListed es = Listed es × (are_distinct (keys_of es) ≡ true)

  abbrev Once : List (ℕ × A) → List (ℕ × A) → Type 0
  Once a b = (b ≡ a) × (are_distinct (keys_of a) ≡ true)

  pub once_judged : Judges machine_faults OnceListed (λ f. ListedFault f ⊎ TwiceFault f) (and_then (tables_at machine_faults entry_at (get_member key ms)) (once Twice keys_of))
  once_judged =
      judged_as
      machine_faults
      (λ b. (c : List (ℕ × A)) × Listed c × Once c b)
      OnceListed
      (λ f. ListedFault f ⊎ TwiceFault f)
      (λ f. ListedFault f ⊎ TwiceFault f)
      (λ b. (λ t. subst OnceListed (sym t.2.0) (t.1, t.2.1), λ w. (b, w.0, (refl, w.1))))
      (λ f. (λ h. h, λ h. h))
      (and_then (tables_at machine_faults entry_at (get_member key ms)) (once Twice keys_of))
      (and_then_judged machine_faults Listed ListedFault TwiceFault Once (once Twice keys_of)
      (λ a s. one_test machine_faults a (are_distinct (keys_of a)) IsTwice (twice_iff a s) Twice)
      twice_higher _ (tables_judged machine_faults IsEntry EntryFault entry_at entry_judged key ms))
