-- Data processing, multiplies and branches, where they cost the most.
use Rattle.std.proofs.Common.{◌≡◌, ℕ, ◌+◌, ◌*◌, ◌≤◌, ◌&&◌, not, min, Bool, true, false, cond, refl, sym, subst, arith}
use Rattle.std.proofs.lemmas.Bool.{false≢true}
use Rattle.bus_ticks.specs.declared.profile.Class.{Class}
use Rattle.bus_ticks.specs.declared.profile.Profile.{Profile}
use Rattle.bus_ticks.specs.declared.profile.RomTimes.{RomTimes}
use Rattle.bus_ticks.specs.Prices.{ahead_of, fetch_n, fetch_s}
use Rattle.arm2_decode.specs.Names.{is_compare, is_pc, register_number}
use Rattle.arm2_decode.specs.Writers.{data_writes_pc}
use Rattle.arm2_decode.specs.declared.flags.Flags.{Flags}
use Rattle.arm2_decode.specs.declared.instr.Branch.{Branch}
use Rattle.arm2_decode.specs.declared.instr.Multiply.{Multiply}
use Rattle.arm2_decode.specs.declared.names.Opcode.{Opcode}
use Rattle.arm2_decode.specs.declared.names.Register.{Register}
use Rattle.shifter.specs.Shifts.{multiply_cycles}
use Rattle.shifter.proofs.ShiftLemmas.{most_cycles}
use Rattle.arm2_effect.specs.declared.step_end.Kind.TheVariants as ended
use Rattle.arm2_effect.specs.Effects.{Effect, onward, skipped, straight}
use Rattle.arm2_effect.specs.Modes.{r15_in, register_in}
use Rattle.arm2_effect.specs.Operations.{branch_effect, compared, delayed, entered, jumped}
use Rattle.arm2_effect.specs.Operations.{multiply_effect, outcome_effect, product_of}
use Rattle.arm2_effect.specs.Outcomes.{outcome_of}
use Rattle.arm2_effect.specs.ProgramCounter.{address_of}
use Rattle.control_flow.specs.Kinds.{is_writer, writer_if}
use Rattle.control_flow.specs.declared.actions.Kind.{Kind}
use Rattle.control_flow.specs.declared.actions.Kind.TheVariants as kind
use Rattle.control_flow.specs.declared.actions.Work.TheVariants as work
use Rattle.flow_graph.specs.TightWork.{IsDearestTarget}
use Rattle.flow_graph.proofs.StepOperations.{branch_lands, jumped_goes}
use Rattle.flow_graph.proofs.StepTicks.{jump_price}
use Rattle.flow_graph.proofs.TightSetting.{EffectPays, IsTarget, PaysFrom, Setting, mode, start}
use Rattle.flow_graph.proofs.TightTicks.{delayed_pays, onward_pays, straight_pays}

-- a branch jumps, and does not write R15 otherwise
abbrev pub branch_kind : Bool → ℕ → Kind
branch_kind link offset = cond link (kind.Call offset) (kind.Branch offset)

branch_jumps : (p : Profile) (rom : RomTimes) (class : Class) (a : ℕ) (link : Bool) (offset t : ℕ)
    → jump_price p rom class a (branch_kind link offset) t ≡ fetch_n p t rom + fetch_s p (ahead_of t 4) rom
branch_jumps p rom class a true offset t = refl
branch_jumps p rom class a false offset t = refl

no_writer : (link : Bool) (offset : ℕ) → is_writer (branch_kind link offset) ≡ true → ⊥
no_writer true offset e = false≢true e
no_writer false offset e = false≢true e

module _ (c : Setting) where
  -- no jump
  passes : (e : Effect) → e.kind ≡ ended.Plain → e.accesses ≡ straight (start c)
      → EffectPays c kind.Plain (work.Internal 0) e
  passes e plain accesses =
      let to : ℕ = address_of (r15_in e.regs) in
      record {
        plain = plain;
        pays =
            subst (λ xs. PaysFrom c kind.Plain (work.Internal 0) xs to) (sym accesses)
            (straight_pays c.profile c.rom c.class c.limit (start c) c.dear c.some to);
        lands = λ w. absurd (false≢true w);
      }

  -- a jump to t
  jumps : (k : Kind) (t : ℕ) (e : Effect) → e.kind ≡ ended.Plain → e.accesses ≡ onward (start c) t
      → address_of (r15_in e.regs) ≡ t
      → jump_price c.profile c.rom c.class (start c) k t
      ≡ fetch_n c.profile t c.rom + fetch_s c.profile (ahead_of t 4) c.rom
      → (is_writer k ≡ true → IsDearestTarget c.st c.profile c.to t)
      → EffectPays c k (work.Internal 0) e
  jumps k t e plain accesses there price target = record {
    plain = plain;
    pays =
        subst (λ xs. PaysFrom c k (work.Internal 0) xs (address_of (r15_in e.regs))) (sym accesses)
        (subst (PaysFrom c k (work.Internal 0) (onward (start c) t)) (sym there)
        (onward_pays c.profile c.rom c.class c.limit (start c) c.dear c.some k t price));
    lands = λ w. subst (IsDearestTarget c.st c.profile c.to) (sym there) (target w);
  }

  pub skipped_pays : EffectPays c kind.Plain (work.Internal 0) (skipped c.regs)
  unfolding skipped
  skipped_pays = passes (skipped c.regs) refl refl

  -- ## Data processing

  entered_pays : (sets_flags : Bool) (rd : Register) (out : _)
      → EffectPays c kind.Plain (work.Internal 0) (entered sets_flags rd out c.regs)
  unfolding entered
  entered_pays sets_flags rd out = passes (entered sets_flags rd out c.regs) refl refl

  compared_pays : (rd : Register) (out : _)
      → EffectPays c kind.Plain (work.Internal 0) (compared rd out c.regs)
  unfolding compared
  compared_pays rd out = passes (compared rd out c.regs) refl refl

  jumped_pays : (sets_flags : Bool) (o : Opcode) (x : ℕ) (y : _) (f : Flags)
      → IsTarget c (outcome_of o x y f).value
      → EffectPays c kind.Writer (work.Internal 0) (jumped sets_flags (outcome_of o x y f) c.regs)
  unfolding jumped
  jumped_pays sets_flags o x y f target =
      let out = outcome_of o x y f in
      jumps kind.Writer (address_of out.value) (jumped sets_flags out c.regs) refl refl
      (jumped_goes c.st c.profile c.rom c.class c.regs c.long sets_flags out)
      refl (λ w. target)

  placed_by : (compares to_pc : Bool) (T : Type 0) (x j e : Effect)
      → EffectPays c kind.Plain (work.Internal 0) x
      → (T → EffectPays c kind.Writer (work.Internal 0) j)
      → EffectPays c kind.Plain (work.Internal 0) e
      → ((to_pc && not compares) ≡ true → T)
      → EffectPays c (writer_if (to_pc && not compares)) (work.Internal 0) (cond compares x (cond to_pc j e))
  placed_by true true T x j e hx hj he target = hx
  placed_by true false T x j e hx hj he target = hx
  placed_by false true T x j e hx hj he target = hj (target refl)
  placed_by false false T x j e hx hj he target = he

  pub placed_pays : (o : Opcode) (sets_flags : Bool) (rd : Register) (x : ℕ) (y : _) (f : Flags)
      → (data_writes_pc o rd ≡ true → IsTarget c (outcome_of o x y f).value)
      → EffectPays c (writer_if (data_writes_pc o rd)) (work.Internal 0)
      (outcome_effect o sets_flags rd (outcome_of o x y f) c.regs)
  unfolding outcome_effect
  placed_pays o sets_flags rd x y f target =
      let out = outcome_of o x y f in
      placed_by (is_compare o) (is_pc rd) (IsTarget c out.value) _ _ _
      (compared_pays rd out) (jumped_pays sets_flags o x y f) (entered_pays sets_flags rd out) target

  pub delayed_moves : (cycles most : ℕ) (k : Kind) (e : Effect) → cycles ≡ most → cycles ≤ c.limit
      → EffectPays c k (work.Internal 0) e → EffectPays c k (work.Internal most) (delayed cycles e)
  delayed_moves cycles most k e all few h = record {
    plain = h.plain;
    pays = delayed_pays c.profile c.rom c.class c.limit (start c) c.dear c.some cycles most k e.accesses _ all few h.pays;
    lands = h.lands;
  }

  pub multiply_pays : (x : Multiply)
      → multiply_cycles (register_in (mode c) (register_number x.rs) c.regs) ≡ c.limit
      → EffectPays c kind.Plain (work.Internal (min 16 c.limit)) (multiply_effect x c.regs)
  unfolding multiply_effect
  multiply_pays x all =
      let number : ℕ = register_in (mode c) (register_number x.rs) c.regs in
      delayed_moves (multiply_cycles number) (min 16 c.limit) kind.Plain
      (entered x.sets_flags x.rd (product_of x c.regs) c.regs)
      (omega (arith, all, most_cycles number)) (omega (arith, all))
      (entered_pays x.sets_flags x.rd (product_of x c.regs))

  -- ## Branches

  pub branch_pays : (x : Branch)
      → EffectPays c (branch_kind x.link x.offset) (work.Internal 0) (branch_effect x c.regs)
  unfolding branch_effect
  branch_pays x =
      let t : ℕ = ahead_of (start c) (8 + 4 * x.offset) in
      jumps (branch_kind x.link x.offset) t (branch_effect x c.regs) refl refl
      (branch_lands c.st c.profile c.rom c.class c.regs c.long x)
      (branch_jumps c.profile c.rom c.class (start c) x.link x.offset t)
      (λ w. absurd (no_writer x.link x.offset w))
