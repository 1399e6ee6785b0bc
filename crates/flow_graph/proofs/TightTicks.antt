-- What the accesses of a step cost, where each of them costs the most.
use Rattle.std.proofs.Common.{◌≡◌, ℕ, zero, suc, ◌+◌, ◌*◌, ◌<◌, ◌≤◌, ◌==◌, if◌then◌else◌, Bool, true, false, List}
use Rattle.std.proofs.Common.{[], ◌∷◌, ◌++◌, ap, arith}
use Rattle.std.specs.Prelude.{All}
use Rattle.std.proofs.lemmas.List.Elements.{All-append, All-cons, All-contains, All-from_recursion, All-nil, All-push}
use Rattle.bus_ticks.specs.Dearest.{AreDearest, IsDearestBlock}
use Rattle.bus_ticks.specs.declared.profile.Class.{Class}
use Rattle.bus_ticks.specs.declared.profile.Profile.{Profile}
use Rattle.bus_ticks.specs.declared.profile.RomTimes.{RomTimes}
use Rattle.bus_ticks.specs.Prices.{ahead_of, transfer, by_class, class_of, fetch_n, ram_price, fetch_s, word_address}
use Rattle.bus_ticks.specs.Worst.{IsOf, worst_transfer, worst_fetch_n, worst_fetch_s}
use Rattle.arm2_effect.specs.declared.prices.Prices.{Prices}
use Rattle.arm2_effect.specs.Effects.{Access, FetchN, FetchS, Internal, Word, straight, refill, onward}
use Rattle.arm2_effect.specs.Effects.{ticks_of}
use Rattle.arm2_transfer.proofs.Ticks.{end_of_load-jumps, end_of_load-passes, ticks_of-append}
use Rattle.arm2_transfer.proofs.Ticks.{ticks_of-words_at}
use Rattle.arm2_transfer.specs.Moved.{load_accesses, store_accesses, words_at}
use Rattle.control_flow.specs.Edges.{fetch_ticks, passing_ticks, work_ticks}
use Rattle.control_flow.specs.Kinds.{writer_if}
use Rattle.flow_graph.specs.StepLaw.{TakesWithin, TransfersIn}
use Rattle.control_flow.specs.declared.actions.Kind.{Kind}
use Rattle.control_flow.specs.declared.actions.Kind.TheVariants as kind
use Rattle.control_flow.specs.declared.actions.Work.{Work}
use Rattle.control_flow.specs.declared.actions.Work.TheVariants as work
use Rattle.flow_graph.proofs.StepTicks.{jump_price}

-- ## Each access

-- what holds of all fetches, and of some words and cycles
module _ (P : Access → Type 0) (n : (x : ℕ) → P (FetchN x)) (s : (x : ℕ) → P (FetchS x)) where
  straight_all : (a : ℕ) → All P (straight a)
  straight_all a = All-from_recursion P (straight a) (s (ahead_of a 8), tt)

  refill_all : (t : ℕ) → All P (refill t)
  refill_all t = All-from_recursion P (refill t) (n t, (s (ahead_of t 4), tt))

  words_all : (store : Bool) (x k : ℕ) → ((i : ℕ) → i < k → P (Word store (i == 0) (word_address x i)))
      → All P (words_at store x k)
  unfolding words_at
  words_all store x zero each = All-nil P
  words_all store x (suc k) each =
      All-push P (words_at store x k) (Word store (k == 0) (word_address x k))
      (words_all store x k (λ i h. each i (omega arith)))
      (each k (omega arith))

  load_all : (a x k : ℕ) (jumps : Bool) (t : ℕ) → P (Internal 1)
      → ((i : ℕ) → i < k → P (Word false (i == 0) (word_address x i))) → All P (load_accesses a x k jumps t)
  load_all a x k jumps t one each =
      All-append P (straight a ++ words_at false x k) _
      (All-append P (straight a) (words_at false x k) (straight_all a) (words_all false x k each))
      (after jumps)
    where
      after : (b : Bool) → All P (Internal 1 ∷ (if b then refill t else []))
      after true = All-cons P (Internal 1) (refill t) one (refill_all t)
      after false = All-cons P (Internal 1) [] one (All-nil P)

  store_all : (a x k : ℕ) → ((i : ℕ) → i < k → P (Word true (i == 0) (word_address x i)))
      → All P (store_accesses a x k)
  store_all a x k each =
      All-cons P (FetchN (ahead_of a 8)) (words_at true x k) (n (ahead_of a 8)) (words_all true x k each)

-- ## Words of the class

-- a word of a transfer is at an address of the class
abbrev pub IsIn : Class → Access → Type 0
IsIn class (FetchN x) = Unit {0}
IsIn class (FetchS x) = Unit {0}
IsIn class (Word store first x) = IsOf class x
IsIn class (Internal cycles) = Unit {0}

pub transfers_in : (class : Class) (accesses : List Access) → All (IsIn class) accesses
    → TransfersIn class accesses
transfers_in class accesses all store first x there =
    All-contains (IsIn class) accesses (Word store first x) all there

pub straight_in : (class : Class) (a : ℕ) → All (IsIn class) (straight a)
straight_in class = straight_all (IsIn class) (λ x. tt) (λ x. tt)

refill_in : (class : Class) (t : ℕ) → All (IsIn class) (refill t)
refill_in class = refill_all (IsIn class) (λ x. tt) (λ x. tt)

pub words_in : (class : Class) (store : Bool) (x k : ℕ) → ((i : ℕ) → i < k → IsOf class (word_address x i))
    → All (IsIn class) (words_at store x k)
words_in class = words_all (IsIn class) (λ x. tt) (λ x. tt)

pub load_in : (class : Class) (a x k : ℕ) (jumps : Bool) (t : ℕ)
    → ((i : ℕ) → i < k → IsOf class (word_address x i)) → All (IsIn class) (load_accesses a x k jumps t)
load_in class a x k jumps t = load_all (IsIn class) (λ x. tt) (λ x. tt) a x k jumps t tt

-- ## Few cycles

-- cycles without an access are no more than the limit
abbrev pub IsShort : ℕ → Access → Type 0
IsShort limit (FetchN x) = Unit {0}
IsShort limit (FetchS x) = Unit {0}
IsShort limit (Word store first x) = Unit {0}
IsShort limit (Internal cycles) = cycles ≤ limit

pub takes_within : (limit : ℕ) (accesses : List Access) → All (IsShort limit) accesses
    → TakesWithin limit accesses
takes_within limit accesses all cycles there =
    All-contains (IsShort limit) accesses (Internal cycles) all there

pub straight_short : (limit a : ℕ) → All (IsShort limit) (straight a)
straight_short limit = straight_all (IsShort limit) (λ x. tt) (λ x. tt)

pub onward_short : (limit a t : ℕ) → All (IsShort limit) (onward a t)
onward_short limit a t =
    All-append (IsShort limit) (straight a) (refill t) (straight_short limit a)
    (refill_all (IsShort limit) (λ x. tt) (λ x. tt) t)

pub load_short : (limit a x k : ℕ) (jumps : Bool) (t : ℕ) → 1 ≤ limit
    → All (IsShort limit) (load_accesses a x k jumps t)
load_short limit a x k jumps t some =
    load_all (IsShort limit) (λ x. tt) (λ x. tt) a x k jumps t some (λ i h. tt)

pub store_short : (limit a x k : ℕ) → All (IsShort limit) (store_accesses a x k)
store_short limit a x k = store_all (IsShort limit) (λ x. tt) (λ x. tt) a x k (λ i h. tt)

-- ## The greatest prices

-- so many words from an address on are of the class and cost the most
abbrev pub AreDear : Profile → RomTimes → Class → (words lowest : ℕ) → Bool → Type 0
AreDear p rom class words lowest store =
    IsDearestBlock p class words store (record { address = lowest; rom = rom })

module _ (p : Profile) (rom : RomTimes) (class : Class) (a : ℕ) (dear : AreDearest p rom) where
  pub n_worst : (x : ℕ) → fetch_n p x rom ≡ worst_fetch_n p x
  n_worst x = ap (λ r. by_class (class_of x) p.n r p.unfitted) (dear x)

  pub s_worst : (x : ℕ) → fetch_s p x rom ≡ worst_fetch_s p x
  s_worst x = ap (λ r. by_class (class_of x) (ram_price p x) r p.unfitted) (dear x)

module _ (p : Profile) (rom : RomTimes) (class : Class) (limit a : ℕ) (dear : AreDearest p rom)
    (some : 1 ≤ limit) where
  abbrev prices : Prices
  prices = record { profile = p; rom = rom }

  s_dear : (x : ℕ) → fetch_s p x rom ≡ worst_fetch_s p x
  s_dear = s_worst p rom class a dear

  -- accesses of a step that ends at t: their words are of the class, none takes more cycles than the limit, and
  -- they cost what the kind and the work do
  pub record Pays (k : Kind) (w : Work) (accesses : List Access) (t : ℕ) : Type 0 where
    pub in_class : All (IsIn class) accesses
    pub short : All (IsShort limit) accesses
    pub exact : ticks_of prices accesses
        ≡ fetch_ticks p a w + work_ticks p class w + jump_price p rom class a k t

  pub straight_pays : (t : ℕ) → Pays kind.Plain (work.Internal 0) (straight a) t
  straight_pays t = record {
    in_class = straight_in class a;
    short = straight_short limit a;
    exact = omega (arith, s_dear (ahead_of a 8));
  }

  -- the kinds that jump
  pub onward_pays : (k : Kind) (t : ℕ)
      → jump_price p rom class a k t ≡ fetch_n p t rom + fetch_s p (ahead_of t 4) rom
      → Pays k (work.Internal 0) (onward a t) t
  onward_pays k t jumps = record {
    in_class = All-append (IsIn class) (straight a) (refill t) (straight_in class a) (refill_in class t);
    short = onward_short limit a t;
    exact = omega (arith, s_dear (ahead_of a 8), jumps);
  }

  -- internal cycles before
  pub delayed_pays : (cycles most : ℕ) (k : Kind) (accesses : List Access) (t : ℕ) → cycles ≡ most
      → cycles ≤ limit → Pays k (work.Internal 0) accesses t
      → Pays k (work.Internal most) (Internal cycles ∷ accesses) t
  delayed_pays cycles most k accesses t all few h = record {
    in_class = All-cons (IsIn class) (Internal cycles) accesses tt h.in_class;
    short = All-cons (IsShort limit) (Internal cycles) accesses few h.short;
    exact =
        let both = ticks_of-append prices (Internal cycles ∷ []) accesses in
        let product : cycles * p.internal ≡ most * p.internal = ap (λ n. n * p.internal) all in
        let rest : ticks_of prices accesses
        ≡ passing_ticks p a + 0 * p.internal + jump_price p rom class a k t = h.exact in
        omega (arith, both, product, rest);
  }

  pub load_pays : (x k : ℕ) (jumps : Bool) (t : ℕ) → AreDear p rom class k x false
      → Pays (writer_if jumps) (work.Load k) (load_accesses a x k jumps t) t
  load_pays x k true t block = record {
    in_class = load_in class a x k true t block.of_class.each;
    short = load_short limit a x k true t some;
    exact =
        let price : transfer p x k false rom ≡ worst_transfer p class k false = block.price in
        omega (arith, end_of_load-jumps prices a x k t, s_dear (ahead_of a 8), price);
  }
  load_pays x k false t block = record {
    in_class = load_in class a x k false t block.of_class.each;
    short = load_short limit a x k false t some;
    exact =
        let price : transfer p x k false rom ≡ worst_transfer p class k false = block.price in
        omega (arith, end_of_load-passes prices a x k t, s_dear (ahead_of a 8), price);
  }

  pub store_pays : (x k t : ℕ) → AreDear p rom class k x true
      → Pays kind.Plain (work.Store k) (store_accesses a x k) t
  store_pays x k t block = record {
    in_class = store_all (IsIn class) (λ x. tt) (λ x. tt) a x k block.of_class.each;
    short = store_short limit a x k;
    exact =
        let price : transfer p x k true rom ≡ worst_transfer p class k true = block.price in
        let all = ticks_of-append prices (FetchN (ahead_of a 8) ∷ []) (words_at true x k) in
        omega (arith, all, ticks_of-words_at prices true x k, n_worst p rom class a dear (ahead_of a 8), price);
  }
