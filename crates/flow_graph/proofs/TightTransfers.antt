-- Loads and stores, where they cost the most.
use Rattle.std.proofs.Common.{◌≡◌, ℕ, ◌+◌, ◌-◌, ◌^◌, ◌<◌, ◌&&◌, not, nat_lt, Bool, true, false, cond, List}
use Rattle.std.proofs.Common.{[], ◌∷◌, length, Ok, refl, sym, ap, subst, ◌∙◌, arith}
use Rattle.std.proofs.lemmas.Bool.{cond-true, false≢true, lt-ltb}
use Rattle.std.proofs.lemmas.List.{length-append}
use Rattle.bus_ticks.specs.Prices.{word_address}
use Rattle.arm2_decode.specs.Names.{is_pc}
use Rattle.arm2_decode.specs.Transfers.{is_listed, registers_in, word_count, writes_base}
use Rattle.arm2_decode.specs.declared.instr.Block.{Block}
use Rattle.arm2_decode.specs.declared.names.Register.{Register}
use Rattle.arm2_decode.specs.declared.names.Register.TheVariants.{R15}
use Rattle.memc.specs.Memory.{located}
use Rattle.memc.specs.declared.spots.Spot.{Spot}
use Rattle.arm2_effect.specs.Modes.{r15_in, is_user}
use Rattle.arm2_effect.specs.ProgramCounter.{address_of, r15_ahead}
use Rattle.arm2_transfer.specs.declared.single_fields.Single.{Single}
use Rattle.arm2_transfer.specs.declared.span.Span.{Span}
use Rattle.arm2_transfer.specs.declared.words.Move.{Move}
use Rattle.arm2_transfer.specs.Block.{load_all, block_at, block_by, block_carried_out, block_loads}
use Rattle.arm2_transfer.specs.Block.{block_stores, mode_for}
use Rattle.arm2_transfer.specs.Bus.{made_of, seen}
use Rattle.arm2_transfer.specs.Moved.{Moved}
use Rattle.arm2_transfer.specs.Registers.{moved_by, passed, with_base}
use Rattle.arm2_transfer.specs.Single.{address_for, base_after, has_user_rights, single_at, single_by}
use Rattle.arm2_transfer.specs.Single.{single_carried_out, single_loaded, single_loads, single_stores}
use Rattle.arm2_transfer.specs.Words.{moves_of, or_fault, verdict_of}
use Rattle.control_flow.specs.Kinds.{is_writer, transfer_work, writer_if}
use Rattle.flow_graph.specs.TightWork.{IsDearestTarget}
use Rattle.control_flow.specs.declared.actions.Kind.TheVariants as kind
use Rattle.control_flow.specs.declared.actions.Work.TheVariants as work
use Rattle.flow_graph.proofs.StepRegisters.{loaded_goes, long_based, long_r15}
use Rattle.flow_graph.proofs.TightSetting.{IsDear, IsTarget, MovedPays, Setting, mode, start}
use Rattle.flow_graph.proofs.TightTicks.{load_pays, store_pays}
use Rattle.flow_graph.proofs.TightWords.{last_is_r15, last_loaded, others_in, verdict_found, words_found}
use Rattle.flow_graph.proofs.TightWords.{words_to}

-- what writes R15 is a writer
writer_decides : (b : Bool) → is_writer (writer_if b) ≡ true → b ≡ true
writer_decides true e = refl
writer_decides false e = absurd (false≢true e)

module _ (c : Setting) where
  -- a load where the test holds, and else a store
  either_pays : (load to_pc : Bool) (words lowest : ℕ) (T : Type 0) (m n : Moved)
      → (IsDear c words lowest false → (to_pc ≡ true → T) → MovedPays c (writer_if to_pc) (work.Load words) m)
      → (IsDear c words lowest true → MovedPays c kind.Plain (work.Store words) n)
      → IsDear c words lowest (not load) → ((load && to_pc) ≡ true → T)
      → MovedPays c (writer_if (load && to_pc)) (transfer_work load words) (cond load m n)
  either_pays true to_pc words lowest T m n loads stores block target = loads block target
  either_pays false to_pc words lowest T m n loads stores block target = stores block

  -- R15 one instruction on, and a base that may be written back: there are still as many registers
  long_after : (writes : Bool) (rn : Register) (base : ℕ)
      → 26 < length (with_base writes (mode c) rn base (passed c.regs))
  long_after writes rn base =
      let on = long_r15 c.regs (r15_ahead (r15_in c.regs) 4) c.long in
      long_based writes (mode c) rn base (passed c.regs) on

  -- ## Single transfers

  module _ (x : Single) (base : ℕ) (spot : Spot) where
    -- what is loaded
    abbrev word : ℕ
    word = made_of x.byte (address_for x base) (seen c.bus c.port spot)

    abbrev IsFound : Type 0
    IsFound = located c.bus.memc (address_for x base) (has_user_rights x (mode c)) (not x.load) ≡ Ok spot

    single_is : address_for x base < 2 ^ 26 → IsFound
        → single_at x base c.port c.regs c.bus ≡ single_carried_out x base c.port spot c.regs c.bus
    unfolding single_at single_by
    single_is below found =
        cond-true (nat_lt (address_for x base) (2 ^ 26)) _ _ (lt-ltb (address_for x base) (2 ^ 26) below)
        ∙ ap (λ f. single_by x base c.port (or_fault f) c.regs c.bus) found

    single_loads_pays : IsDear c 1 (address_for x base) false → (is_pc x.rd ≡ true → IsTarget c word)
        → MovedPays c (writer_if (is_pc x.rd)) (work.Load 1) (single_loads x base c.port spot c.regs c.bus)
    unfolding single_loads single_loaded
    single_loads_pays block target = record {
      plain = refl;
      pays = load_pays c.profile c.rom c.class c.limit (start c) c.dear c.some (address_for x base) 1 (is_pc x.rd) _ block;
      lands = λ w.
          let writes = writer_decides (is_pc x.rd) w in
          let based = long_after (writes_base x.before x.write_back) x.rn (moved_by x.up base x.offset) in
          subst (IsDearestTarget c.st c.profile c.to)
          (sym (loaded_goes false (mode c) (r15_in c.regs) x.rd word (base_after x base c.regs) based writes))
          (target writes);
    }

    single_stores_pays : IsDear c 1 (address_for x base) true
        → MovedPays c kind.Plain (work.Store 1) (single_stores x base spot c.regs c.bus)
    unfolding single_stores
    single_stores_pays block = record {
      plain = refl;
      pays = store_pays c.profile c.rom c.class c.limit (start c) c.dear c.some (address_for x base) 1 _ block;
      lands = λ w. absurd (false≢true w);
    }

    abbrev SinglePays : Moved → Type 0
    SinglePays m = MovedPays c (writer_if (x.load && is_pc x.rd)) (transfer_work x.load 1) m

    pub single_pays : IsFound → IsDear c 1 (address_for x base) (not x.load)
        → ((x.load && is_pc x.rd) ≡ true → IsTarget c word)
        → SinglePays (single_at x base c.port c.regs c.bus)
    unfolding single_carried_out
    single_pays found block target =
        subst SinglePays (sym (single_is block.of_class.below found))
        (either_pays x.load (is_pc x.rd) 1 (address_for x base) (IsTarget c word) _ _
        single_loads_pays single_stores_pays block target)

  -- ## Block transfers

  module _ (x : Block) (span : Span) (spot : ℕ → Spot) where
    moves : List Move
    moves = moves_of (words_to spot 0 (registers_in x.list))

    -- the last word that a load sees
    abbrev last : ℕ
    last = seen c.bus c.port (spot (word_count x.list - 1))

    abbrev AreFound : Type 0
    AreFound =
        (j : ℕ) → j < word_count x.list
        → located c.bus.memc (word_address span.lowest j) (is_user (mode c)) (not x.load) ≡ Ok (spot j)

    block_is : span.lowest < 2 ^ 26 → AreFound
        → block_at x span c.port c.regs c.bus ≡ block_carried_out x span c.port moves c.regs c.bus
    unfolding block_at block_by moves
    block_is below found =
        let rs = registers_in x.list in
        cond-true (nat_lt span.lowest (2 ^ 26)) _ _ (lt-ltb span.lowest (2 ^ 26) below)
        ∙ ap (λ v. block_by x span c.port v c.regs c.bus)
        (ap verdict_of
        (words_found c.bus.memc (is_user (mode c)) (not x.load) span.lowest 0 spot rs
        (λ j h. found j (omega (arith, h))))
        ∙ verdict_found spot 0 rs)

    -- a load's registers, by those once the base was written back
    abbrev loaded : List Move → List ℕ → List ℕ
    loaded ms regs = load_all x.user (mode_for x (mode c)) (r15_in c.regs) c.bus c.port ms regs

    -- R15 is loaded from the last word
    last_goes : is_listed x.list R15 ≡ true → (regs : List ℕ) → 26 < length regs
        → address_of (r15_in (loaded moves regs)) ≡ address_of last
    unfolding moves
    last_goes listed regs long =
        let split = last_is_r15 x.list listed in
        let count = length-append (others_in x.list) (R15 ∷ []) in
        let before : 0 + length (others_in x.list) ≡ word_count x.list - 1 =
        omega (arith, ap (λ rs. length rs) split, count) in
        ap (λ rs. address_of (r15_in (loaded (moves_of (words_to spot 0 rs)) regs))) split
        ∙ last_loaded x.user (mode_for x (mode c)) (r15_in c.regs) c.bus c.port spot 0 (others_in x.list) regs
        long
        ∙ ap (λ n. address_of (seen c.bus c.port (spot n))) before

    block_loads_pays : IsDear c span.words span.lowest false → (is_listed x.list R15 ≡ true → IsTarget c last)
        → MovedPays c (writer_if (is_listed x.list R15)) (work.Load span.words)
        (block_loads x span c.port moves c.regs c.bus)
    unfolding block_loads
    block_loads_pays block target = record {
      plain = refl;
      pays =
          load_pays c.profile c.rom c.class c.limit (start c) c.dear c.some span.lowest span.words (is_listed x.list R15) _
          block;
      lands = λ w.
          let listed = writer_decides (is_listed x.list R15) w in
          let based = long_after x.write_back x.rn span.base in
          subst (IsDearestTarget c.st c.profile c.to) (sym (last_goes listed _ based)) (target listed);
    }

    block_stores_pays : IsDear c span.words span.lowest true
        → MovedPays c kind.Plain (work.Store span.words) (block_stores x span moves c.regs c.bus)
    unfolding block_stores
    block_stores_pays block = record {
      plain = refl;
      pays = store_pays c.profile c.rom c.class c.limit (start c) c.dear c.some span.lowest span.words _ block;
      lands = λ w. absurd (false≢true w);
    }

    abbrev BlockPays : Moved → Type 0
    BlockPays m = MovedPays c (writer_if (x.load && is_listed x.list R15)) (transfer_work x.load span.words) m

    pub block_pays : AreFound → IsDear c span.words span.lowest (not x.load)
        → ((x.load && is_listed x.list R15) ≡ true → IsTarget c last)
        → BlockPays (block_at x span c.port c.regs c.bus)
    unfolding block_carried_out
    block_pays found block target =
        subst BlockPays (sym (block_is block.of_class.below found))
        (either_pays x.load (is_listed x.list R15) span.words span.lowest (IsTarget c last) _ _
        block_loads_pays block_stores_pays block target)
