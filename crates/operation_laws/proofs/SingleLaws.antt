-- Single transfers.
use Rattle.std.proofs.Common.{◌≡◌, ℕ, ◌<◌, ◌&&◌, ◌||◌, not, nat_lt, Bool, true, false, cond, List, length, Result, Ok, Err, refl, sym, ap, subst, ◌∙◌, arith, inl, inr}
use Rattle.std.specs.Prelude.{slice_index}
use Rattle.std.proofs.lemmas.Bool.{cases_Bool, cond-false, cond-true, cond_both, ltb-true, or_parts}
use Rattle.bus_ticks.specs.declared.space.TheConstants.{SPACE_END}
use Rattle.memc.specs.Memory.{located}
use Rattle.memc.specs.declared.spots.Spot.{Spot}
use Rattle.memc.specs.declared.spots.Refused.{Refused}
use Rattle.memc.specs.declared.spots.Refused.TheVariants.{NoPage, Protected, UnsupportedWrite}
use Rattle.arm2_decode.specs.Names.{is_pc, register_number}
use Rattle.arm2_decode.specs.Transfers.{writes_base}
use Rattle.arm2_effect.specs.declared.exceptions.Vector.{Vector}
use Rattle.arm2_effect.specs.declared.exceptions.Vector.TheVariants as vector
use Rattle.arm2_effect.specs.declared.modes.Mode.{Mode}
use Rattle.arm2_effect.specs.declared.step_end.Kind.TheVariants.{Plain}
use Rattle.arm2_effect.specs.Effects.{stopped}
use Rattle.arm2_effect.specs.Exceptions.{taken}
use Rattle.arm2_effect.specs.Modes.{r15_in, with_register, with_r15}
use Rattle.arm2_effect.specs.Operands.{current_mode}
use Rattle.arm2_effect.specs.ProgramCounter.{address_of, r15_ahead}
use Rattle.arm2_transfer.specs.declared.bus.Bus.{Bus}
use Rattle.arm2_transfer.specs.declared.single_fields.Single.{Single}
use Rattle.arm2_transfer.specs.declared.words.TransferFault.{TransferFault}
use Rattle.arm2_transfer.specs.declared.words.TransferFault.TheVariants as fault
use Rattle.arm2_transfer.specs.Bus.{put_single}
use Rattle.arm2_transfer.specs.Moved.{Moved, faulted, on_bus, out_of_space}
use Rattle.arm2_transfer.specs.Registers.{given, loaded_r15, moved_by, passed, with_loaded}
use Rattle.arm2_transfer.specs.Single.{base_after, has_user_rights, single_at, single_by, single_carried_out, single_loaded, single_loads, single_moved, single_stores}
use Rattle.arm2_transfer.specs.Words.{or_fault}
use Rattle.arm2_transfer.proofs.Slots.{loaded_apart, loaded_here}
use Rattle.operation_laws.specs.Leaves.{LeavesSingle, base_of, next_of, single_address, word_from}
use Rattle.operation_laws.specs.Left.{LeavesR15, LeavesRegisters, Kept, is_at}
use Rattle.operation_laws.proofs.R15Lemmas.{ahead_left, jumped_left}
use Rattle.operation_laws.proofs.WriteLemmas.{based_apart, based_here, based_long, based_r15, below_r15, r15_apart, r15_long, r15_put, r15_stays, with_long}

-- ## What is not carried out

pub not_taken : (v : Vector) (regs : List ℕ) (bus : Bus) → (on_bus bus (taken v regs)).kind ≡ Plain → ⊥
unfolding taken
not_taken v regs bus is = cc

pub not_faulted : (t : TransferFault) (regs : List ℕ) (bus : Bus) → (faulted t regs bus).kind ≡ Plain → ⊥
unfolding stopped
not_faulted fault.DataAbort regs bus is = not_taken vector.DataAbort regs bus is
not_faulted fault.UnsupportedWrite regs bus is = cc

met_located : (found : Result Spot Refused) (spot : Spot) → or_fault found ≡ Ok spot → found ≡ Ok spot
met_located (Ok other) spot is = cc
met_located (Err NoPage) spot is = absurd cc
met_located (Err Protected) spot is = absurd cc
met_located (Err UnsupportedWrite) spot is = absurd cc

-- ## Choices

pub or_second : (a b : Bool) → a ≡ false → (a || b) ≡ true → b ≡ true
or_second a b off is = ap (λ (c : Bool). c || b) (sym off) ∙ is

-- ## R15 one instruction on

module _ (regs : List ℕ) (long : 26 < length regs) where
  pub passed_r15 : r15_in (passed regs) ≡ r15_ahead (r15_in regs) 4
  passed_r15 = r15_put regs (r15_ahead (r15_in regs) 4) long

  pub passed_long : length (passed regs) ≡ length regs
  passed_long = r15_long regs (r15_ahead (r15_in regs) 4)

  pub passed_apart : (p : ℕ) → p < 26 → slice_index (passed regs) p ≡ slice_index regs p
  passed_apart p low = r15_apart regs (r15_ahead (r15_in regs) 4) p low

-- ## A loaded word in any register

module _ (psr : Bool) (mode : Mode) (r word : ℕ) (rd : _) (regs : List ℕ) where
  pub loaded_long : length (with_loaded psr mode r rd word regs) ≡ length regs
  loaded_long =
      cond_both (is_pc rd) (with_r15 (loaded_r15 psr r word) regs) (with_register mode (register_number rd) word regs)
      (λ xs. length xs ≡ length regs)
      (λ last. r15_long regs (loaded_r15 psr r word))
      (λ other. with_long regs word mode (register_number rd))

  pub loaded_pc : 26 < length regs → is_pc rd ≡ true
      → r15_in (with_loaded psr mode r rd word regs) ≡ loaded_r15 psr r word
  loaded_pc long last =
      ap r15_in (cond-true (is_pc rd) (with_r15 (loaded_r15 psr r word) regs) _ last)
      ∙ r15_put regs (loaded_r15 psr r word) long

  pub loaded_other : is_pc rd ≡ false → r15_in (with_loaded psr mode r rd word regs) ≡ r15_in regs
  loaded_other other =
      ap r15_in (cond-false (is_pc rd) _ (with_register mode (register_number rd) word regs) other)
      ∙ r15_stays regs word mode (register_number rd) (below_r15 mode rd other)

-- ## A single transfer

module _ (x : Single) (port : ℕ) (regs : List ℕ) (bus : Bus) (long : length regs ≡ 27)
    (base_other : writes_base x.before x.write_back ≡ true → is_pc x.rn ≡ false) where
  abbrev r : ℕ
  r = r15_in regs

  abbrev mode : Mode
  mode = current_mode regs

  abbrev writes : Bool
  writes = writes_base x.before x.write_back

  abbrev moved : ℕ
  moved = moved_by x.up (base_of x regs) x.offset

  abbrev after_base : List ℕ
  after_base = base_after x (base_of x regs) regs

  far : 26 < length regs
  far = omega (arith, long)

  far_passed : 26 < length (passed regs)
  far_passed = omega (arith, far, passed_long regs far)

  base_long : length after_base ≡ length regs
  base_long = based_long mode x.rn moved (passed regs) writes ∙ passed_long regs far

  base_r15 : r15_in after_base ≡ r15_ahead r 4
  base_r15 = based_r15 mode x.rn moved (passed regs) writes base_other ∙ passed_r15 regs far

  base_here : (p : ℕ) → p < 26 → (writes && is_at regs x.rn p) ≡ true → slice_index after_base p ≡ moved
  base_here p low is = based_here mode x.rn moved (passed regs) writes p (omega (arith, low, far_passed)) is

  base_apart : (p : ℕ) → p < 26 → (writes && is_at regs x.rn p) ≡ false
      → slice_index after_base p ≡ slice_index regs p
  base_apart p low is = based_apart mode x.rn moved (passed regs) writes p is ∙ passed_apart regs far p low

  module _ (spot : Spot) where
    abbrev word : ℕ
    word = word_from x port regs bus spot

    -- by whether it loads
    abbrev RegistersLeft : (load : Bool) → List ℕ → Type 0
    RegistersLeft load after =
        LeavesRegisters
        (λ p. (load && is_at regs x.rd p) || (writes && is_at regs x.rn p))
        (λ p v. v ≡ cond (load && is_at regs x.rd p) word moved)
        (cond (load && is_pc x.rd) (address_of word) (next_of regs))
        Kept
        regs after

    stores_left : RegistersLeft false after_base
    stores_left =
        record {
          as_many = base_long;
          written = base_here;
          kept = base_apart;
          r15 = subst (LeavesR15 (next_of regs) Kept r) (sym base_r15) (ahead_left r);
        }

    abbrev after_load : List ℕ
    after_load = with_loaded false mode r x.rd word after_base

    load_here : (p : ℕ) → p < 26 → is_at regs x.rd p ≡ true → slice_index after_load p ≡ word
    load_here p low here =
        loaded_here mode p x.rd after_base low false r word (omega (arith, far, base_long)) here

    load_apart : (p : ℕ) → p < 26 → is_at regs x.rd p ≡ false → slice_index after_load p ≡ slice_index after_base p
    load_apart p low apart = loaded_apart mode p x.rd after_base low false r word apart

    load_written : (p : ℕ) → p < 26 → (is_at regs x.rd p || (writes && is_at regs x.rn p)) ≡ true
        → slice_index after_load p ≡ cond (is_at regs x.rd p) word moved
    load_written p low is = elim (cases_Bool (is_at regs x.rd p)) [
      | inl here ↦ load_here p low here ∙ sym (cond-true (is_at regs x.rd p) word moved here)
      | inr apart ↦
          load_apart p low apart
          ∙ base_here p low (or_second (is_at regs x.rd p) (writes && is_at regs x.rn p) apart is)
          ∙ sym (cond-false (is_at regs x.rd p) word moved apart)
    ]

    load_kept : (p : ℕ) → p < 26 → (is_at regs x.rd p || (writes && is_at regs x.rn p)) ≡ false
        → slice_index after_load p ≡ slice_index regs p
    load_kept p low is =
        let parts = or_parts (is_at regs x.rd p) (writes && is_at regs x.rn p) is in
        load_apart p low parts.0 ∙ base_apart p low parts.1

    load_r15 : (to_pc : Bool) → is_pc x.rd ≡ to_pc
        → LeavesR15 (cond to_pc (address_of word) (next_of regs)) Kept r (r15_in after_load)
    load_r15 true last =
        subst (LeavesR15 (address_of word) Kept r)
        (sym (loaded_pc false mode r word x.rd after_base (omega (arith, far, base_long)) last))
        (jumped_left r word)
    load_r15 false other =
        subst (LeavesR15 (next_of regs) Kept r)
        (sym (loaded_other false mode r word x.rd after_base other ∙ base_r15))
        (ahead_left r)

    loads_left : RegistersLeft true after_load
    loads_left =
        record {
          as_many = loaded_long false mode r word x.rd after_base ∙ base_long;
          written = load_written;
          kept = load_kept;
          r15 = load_r15 (is_pc x.rd) refl;
        }

    abbrev BothLeft : (load : Bool) → Moved → Type 0
    BothLeft load m =
        RegistersLeft load m.regs
        × (m.bus ≡ cond load bus (put_single x.byte spot (single_address x regs) (given mode x.rd regs) bus))

    carried_by : (load : Bool)
        → BothLeft load
        (cond load (single_loads x (base_of x regs) port spot regs bus) (single_stores x (base_of x regs) spot regs bus))
    unfolding single_loads single_loaded single_stores
    carried_by true = (loads_left, refl)
    carried_by false = (stores_left, refl)

    carried_left : single_address x regs < SPACE_END
        → located bus.memc (single_address x regs) (has_user_rights x mode) (not x.load) ≡ Ok spot
        → LeavesSingle x port regs bus (single_carried_out x (base_of x regs) port spot regs bus)
    unfolding single_carried_out
    carried_left below here =
        let both = carried_by x.load in
        record { in_space = below; spot = spot; is_spot = here; registers = both.0; bus_left = both.1 }

  single_left_by : (within : Bool) (found : Result Spot TransferFault)
      → nat_lt (single_address x regs) SPACE_END ≡ within
      → or_fault (located bus.memc (single_address x regs) (has_user_rights x mode) (not x.load)) ≡ found
      → (cond within (single_by x (base_of x regs) port found regs bus) (out_of_space regs bus)).kind ≡ Plain
      → LeavesSingle x port regs bus
      (cond within (single_by x (base_of x regs) port found regs bus) (out_of_space regs bus))
  unfolding single_by
  single_left_by false found at is plain = absurd (not_taken vector.AddressException regs bus plain)
  single_left_by true (Err t) at is plain = absurd (not_faulted t regs bus plain)
  single_left_by true (Ok spot) at is plain =
      carried_left spot (ltb-true (single_address x regs) SPACE_END at) (met_located _ spot is)

  pub single_left : (single_moved x port regs bus).kind ≡ Plain
      → LeavesSingle x port regs bus (single_moved x port regs bus)
  unfolding single_at
  single_left plain = single_left_by _ _ refl refl plain
