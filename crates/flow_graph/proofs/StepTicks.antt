-- What the accesses of a step cost at most.
use Rattle.std.proofs.Common.{◌≡◌, ℕ, zero, suc, ◌+◌, ◌*◌, ◌^◌, ◌<◌, ◌≤◌, ◌==◌, ◌⊎◌, inl, inr, min, Bool, true, false, List, [], ◌∷◌, ◌++◌, refl, sym, ap, subst, arith}
use Rattle.std.specs.Prelude.{Contains}
use Rattle.std.proofs.lemmas.Bool.{false≢true}
use Rattle.std.proofs.Math.Nat.{eq-or-lt_of_le}
use Rattle.std.proofs.lemmas.Nat.{mul-le}
use Rattle.std.proofs.lemmas.List.Elements.{Contains-append_left, Contains-append_right, Contains-push}
use Rattle.bus_ticks.specs.declared.profile.Class.{Class}
use Rattle.bus_ticks.specs.declared.profile.Profile.{Profile}
use Rattle.bus_ticks.specs.declared.profile.RomTimes.{RomTimes}
use Rattle.bus_ticks.specs.Prices.{ahead_of, transfer, fetch_n, fetch_s, word_address}
use Rattle.bus_ticks.specs.Worst.{IsBlockOf, worst_transfer, worst_fetch_n, worst_fetch_s}
use Rattle.bus_ticks.proofs.FetchLemmas.{n_greatest, s_greatest}
use Rattle.bus_ticks.proofs.WorstLemmas.{worst_transfer_greatest}
use Rattle.arm2_effect.specs.declared.prices.Prices.{Prices}
use Rattle.arm2_effect.specs.Effects.{Access, FetchN, FetchS, Internal, Word, straight, refill, ticks_of}
use Rattle.arm2_effect.specs.ProgramCounter.{branch_target}
use Rattle.arm2_transfer.proofs.Ticks.{end_of_load-jumps, end_of_load-passes, ticks_of-append, ticks_of-words_at}
use Rattle.arm2_transfer.specs.Moved.{load_accesses, store_accesses, words_at}
use Rattle.arm2_decode.specs.Transfers.{word_count}
use Rattle.arm2_decode.specs.declared.instr.Operation.{Operation}
use Rattle.arm2_decode.specs.declared.instr.Operation.TheVariants as operation
use Rattle.control_flow.specs.Edges.{fetch_ticks, passing_ticks, stated_work, work_ticks}
use Rattle.control_flow.specs.Kinds.{is_multiply, transfer_work, work_of, writer_if}
use Rattle.statement.specs.Stated.{Stated, cycles_at}
use Rattle.flow_graph.specs.StepLaw.{TransfersIn}
use Rattle.control_flow.specs.declared.actions.Kind.{Kind}
use Rattle.control_flow.specs.declared.actions.Kind.TheVariants as kind
use Rattle.control_flow.specs.declared.actions.Work.{Work}
use Rattle.control_flow.specs.declared.actions.Work.TheVariants as work
use Rattle.control_flow.proofs.SortedLemmas.{there}

-- ## What is stated

-- at least one cycle, and at most those that a multiply can take
pub some_stated : (st : Stated) (a : ℕ) → 1 ≤ cycles_at st a
some_stated st a = omega arith

pub few_stated : (st : Stated) (a : ℕ) → cycles_at st a ≤ 16
few_stated st a = omega arith

-- what is stated of multiplies changes no other work
stated_internal : (st : Stated) (a n : ℕ) → n ≤ 1 → stated_work st a (work.Internal n) ≡ work.Internal n
stated_internal st a n few =
    let some = some_stated st a in
    let same : min n (cycles_at st a) ≡ n = omega (arith, few, some) in
    ap (λ (k : ℕ). work.Internal k) same

stated_transfer : (st : Stated) (a : ℕ) (load : Bool) (words : ℕ) → stated_work st a (transfer_work load words) ≡ transfer_work load words
stated_transfer st a true words = refl
stated_transfer st a false words = refl

pub stated_other : (st : Stated) (a : ℕ) (o : Operation) → is_multiply o ≡ false → stated_work st a (work_of o) ≡ work_of o
stated_other st a (operation.Multiply x) other = absurd (false≢true (sym other))
stated_other st a (operation.DataRegister x) other = stated_internal st a 0 (omega arith)
stated_other st a (operation.DataRegisterShift x) other = stated_internal st a 1 (omega arith)
stated_other st a (operation.DataImmediate x) other = stated_internal st a 0 (omega arith)
stated_other st a (operation.SingleImmediate x) other = stated_transfer st a x.load 1
stated_other st a (operation.SingleRegister x) other = stated_transfer st a x.load 1
stated_other st a (operation.Block x) other = stated_transfer st a x.load (word_count x.list)
stated_other st a (operation.Branch x) other = stated_internal st a 0 (omega arith)
stated_other st a (operation.Swi x) other = stated_internal st a 0 (omega arith)
stated_other st a (operation.UndefinedTransfer x) other = stated_internal st a 0 (omega arith)
stated_other st a (operation.CoprocessorTransfer x) other = stated_internal st a 0 (omega arith)
stated_other st a (operation.Coprocessor x) other = stated_internal st a 0 (omega arith)

pub fetch_stated : (p : Profile) (st : Stated) (a : ℕ) (w : Work) → fetch_ticks p a (stated_work st a w) ≡ fetch_ticks p a w
fetch_stated p st a (work.Internal n) = refl
fetch_stated p st a (work.Load words) = refl
fetch_stated p st a (work.Store words) = refl

-- ## Transfers

-- the first words of a transfer are among its accesses
pub words_there : (store : Bool) (address k i : ℕ) → i < k → Contains (words_at store address k) (Word store (i == 0) (word_address address i))
unfolding words_at
words_there store address zero i h = absurd (omega arith)
words_there store address (suc k) i h = by_place (λ less. words_there store address k i less) (eq-or-lt_of_le (let le : i ≤ k = omega arith in le))
  where
    by_place : (i < k → Contains (words_at store address k) (Word store (i == 0) (word_address address i))) → (i ≡ k) ⊎ (i < k) → Contains (words_at store address k ++ Word store (k == 0) (word_address address k) ∷ []) (Word store (i == 0) (word_address address i))
    by_place before (inl e) =
        subst (λ n. Contains (words_at store address k ++ Word store (k == 0) (word_address address k) ∷ []) (Word store (n == 0) (word_address address n))) (sym e)
        (Contains-push (words_at store address k) (Word store (k == 0) (word_address address k)))
    by_place before (inr less) = Contains-append_left (words_at store address k) (Word store (k == 0) (word_address address k) ∷ []) _ (before less)

pub load_block : (class : Class) (rom : RomTimes) (a address k : ℕ) (jumps : Bool) (t : ℕ) → address < 2 ^ 26 → TransfersIn class (load_accesses a address k jumps t) → IsBlockOf class k (record { address = address; rom = rom })
load_block class rom a address k jumps t below in_class = record {
  below = below;
  each = λ i h. in_class false (i == 0) (word_address address i)
      (Contains-append_left (straight a ++ words_at false address k) _ _
      (Contains-append_right (straight a) (words_at false address k) _ (words_there false address k i h)));
}

pub store_block : (class : Class) (rom : RomTimes) (a address k : ℕ) → address < 2 ^ 26 → TransfersIn class (store_accesses a address k) → IsBlockOf class k (record { address = address; rom = rom })
store_block class rom a address k below in_class = record {
  below = below;
  each = λ i h. in_class true (i == 0) (word_address address i)
      (there (FetchN (ahead_of a 8)) (words_at true address k) _ (words_there true address k i h));
}

module _ (p : Profile) (rom : RomTimes) (class : Class) (a : ℕ) where
  abbrev prices : Prices
  prices = record { profile = p; rom = rom }

  pub n_most : (x : ℕ) → fetch_n p x rom ≤ worst_fetch_n p x
  n_most x = (n_greatest p x (worst_fetch_n p x) refl).none_above rom tt

  pub s_most : (x : ℕ) → fetch_s p x rom ≤ worst_fetch_s p x
  s_most x = (s_greatest p x (worst_fetch_s p x) refl).none_above rom tt

  -- where a word of the kind leads from address a, by its own fields
  abbrev pub Reaches : Kind → ℕ → Type 0
  Reaches kind.Plain t = t ≡ ahead_of a 4
  Reaches (kind.Branch offset) t = t ≡ branch_target a offset
  Reaches (kind.Call offset) t = t ≡ branch_target a offset
  Reaches kind.Writer t = Unit {0}
  Reaches kind.Trap t = ⊥
  Reaches kind.Unallocated t = ⊥

  -- the two fetches of a word that jumps
  abbrev pub jump_price : Kind → ℕ → ℕ
  jump_price kind.Plain t = 0
  jump_price (kind.Branch offset) t = fetch_n p t rom + fetch_s p (ahead_of t 4) rom
  jump_price (kind.Call offset) t = fetch_n p t rom + fetch_s p (ahead_of t 4) rom
  jump_price kind.Writer t = fetch_n p t rom + fetch_s p (ahead_of t 4) rom
  jump_price kind.Trap t = 0
  jump_price kind.Unallocated t = 0

  -- a step of these accesses that ends at t is one of a word of the kind and the work, and costs no more than they do
  pub record Costs (k : Kind) (w : Work) (accesses : List Access) (t : ℕ) : Type 0 where
    pub reaches : Reaches k t
    pub most : ticks_of prices accesses ≤ fetch_ticks p a w + work_ticks p class w + jump_price k t

  pub straight_costs : (t : ℕ) → t ≡ ahead_of a 4 → Costs kind.Plain (work.Internal 0) (straight a) t
  straight_costs t e = record { reaches = e; most = omega (arith, s_most (ahead_of a 8)) }

  pub jump_costs : (t : ℕ) → Costs kind.Writer (work.Internal 0) (FetchS (ahead_of a 8) ∷ refill t) t
  jump_costs t = record { reaches = tt; most = omega (arith, s_most (ahead_of a 8)) }

  pub branch_costs : (offset t : ℕ) → t ≡ branch_target a offset → Costs (kind.Branch offset) (work.Internal 0) (FetchS (ahead_of a 8) ∷ refill t) t
  branch_costs offset t e = record { reaches = e; most = omega (arith, s_most (ahead_of a 8)) }

  pub call_costs : (offset t : ℕ) → t ≡ branch_target a offset → Costs (kind.Call offset) (work.Internal 0) (FetchS (ahead_of a 8) ∷ refill t) t
  call_costs offset t e = record { reaches = e; most = omega (arith, s_most (ahead_of a 8)) }

  -- internal cycles before
  pub delayed_costs : (cycles most : ℕ) (k : Kind) (accesses : List Access) (t : ℕ) → cycles ≤ most → Costs k (work.Internal 0) accesses t → Costs k (work.Internal most) (Internal cycles ∷ accesses) t
  delayed_costs cycles most k accesses t few h = record {
    reaches = h.reaches;
    most =
        let all = ticks_of-append prices (Internal cycles ∷ []) accesses in
        let product : cycles * p.internal ≤ most * p.internal = mul-le cycles p.internal most p.internal few (omega arith) in
        let before : ticks_of prices accesses ≤ passing_ticks p a + 0 * p.internal + jump_price k t = h.most in
        omega (arith, all, product, before);
  }

  block_most : (address k : ℕ) (store : Bool) → 1 ≤ k → k ≤ 16 → IsBlockOf class k (record { address = address; rom = rom }) → transfer p address k store rom ≤ worst_transfer p class k store
  block_most address k store some few of_class = (worst_transfer_greatest p class k store (worst_transfer p class k store) some few refl).none_above (record { address = address; rom = rom }) of_class

  pub load_costs : (address k : ℕ) (jumps : Bool) (t : ℕ) → 1 ≤ k → k ≤ 16 → IsBlockOf class k (record { address = address; rom = rom }) → (jumps ≡ false → t ≡ ahead_of a 4) → Costs (writer_if jumps) (work.Load k) (load_accesses a address k jumps t) t
  load_costs address k true t some few of_class to = record {
    reaches = tt;
    most = omega (arith, end_of_load-jumps prices a address k t, s_most (ahead_of a 8), block_most address k false some few of_class);
  }
  load_costs address k false t some few of_class to = record {
    reaches = to refl;
    most = omega (arith, end_of_load-passes prices a address k t, s_most (ahead_of a 8), block_most address k false some few of_class);
  }

  pub store_costs : (address k t : ℕ) → 1 ≤ k → k ≤ 16 → IsBlockOf class k (record { address = address; rom = rom }) → t ≡ ahead_of a 4 → Costs kind.Plain (work.Store k) (store_accesses a address k) t
  store_costs address k t some few of_class to = record {
    reaches = to;
    most =
        let all = ticks_of-append prices (FetchN (ahead_of a 8) ∷ []) (words_at true address k) in
        omega (arith, all, ticks_of-words_at prices true address k, n_most (ahead_of a 8), block_most address k true some few of_class);
  }
