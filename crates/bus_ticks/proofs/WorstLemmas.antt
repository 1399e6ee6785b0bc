-- Bounds on the prices of blocks, and blocks that have them.
use Rattle.std.proofs.Common.{ℕ, zero, suc, ◌+◌, ◌-◌, ◌*◌, ◌/◌, ◌%◌, ◌≤◌, ◌<◌, ◌≡◌, Bool, true, false, refl}
use Rattle.std.proofs.Common.{ap, ◌∙◌, inl, inr, arith, eqb, ltb, cond, max}
use Rattle.std.proofs.lemmas.Bool.Decides.{nat_tests, eqb_tells}
use Rattle.std.proofs.lemmas.Bool.{cases_lt}
use Rattle.std.proofs.lemmas.Nat.{mul-le}
use Rattle.bus_ticks.specs.declared.profile.Profile.{Profile}
use Rattle.bus_ticks.specs.declared.profile.RomTimes.{RomTimes}
use Rattle.bus_ticks.specs.declared.profile.Class.{Class}
use Rattle.bus_ticks.specs.declared.profile.Class.TheVariants.{Ram, Rom, Io, Any}
use Rattle.bus_ticks.specs.declared.profile.Class.TheVariants.{Slow, Medium, Fast, Synchronous}
use Rattle.bus_ticks.specs.Ranges.{greatest}
use Rattle.bus_ticks.specs.Prices.{class_of, by_class, choice, rom_price, io_price, word_price, word_address}
use Rattle.bus_ticks.specs.Prices.{transfer}
use Rattle.bus_ticks.specs.Worst.{AtTimes, IsBlockOf, IsDevice, IsGreatest, IsOf, IsSpeed, transfer_price}
use Rattle.bus_ticks.specs.Worst.{worst_rom, worst_io}
use Rattle.bus_ticks.specs.Worst.{worst_transfer}
use Rattle.bus_ticks.specs.Dearest.{AreDearest, IsDearestBlock}

-- one of four is at most the greatest
pub choice_le : (i a b c d : ℕ) → choice i a b c d ≤ greatest a b c d
choice_le i a b c d = grind (arith, nat_tests)

-- some of four is the greatest
choice_reached : (a b c d : ℕ) → (i : ℕ) × (i < 4) × (choice i a b c d ≡ greatest a b c d)
choice_reached a b c d =
    elim (cases_lt (max a b) (max c d)) [
      | inl low ↦ elim (cases_lt c d) [
        | inl h ↦ (3, omega arith, omega arith)
        | inr h ↦ (2, omega arith, omega arith)
      ]
      | inr high ↦ elim (cases_lt a b) [
        | inl h ↦ (1, omega arith, omega arith)
        | inr h ↦ (0, omega arith, omega arith)
      ]
    ]

pub rom_le : (p : Profile) (rom : RomTimes) (x : ℕ) → rom_price p x rom ≤ worst_rom p
rom_le p rom x = choice_le (cond (ltb x 0x3800000) rom.low rom.high) p.rom_0 p.rom_1 p.rom_2 p.rom_3

pub io_le : (p : Profile) (x : ℕ) → io_price p x ≤ worst_io p
io_le p x = choice_le (x / 0x80000 % 4) p.slow p.medium p.fast p.synchronous

by_class_le : (c : Class) (ram rom io top : ℕ) → ram ≤ top → rom ≤ top → io ≤ top
    → by_class c ram rom io ≤ top
by_class_le Ram ram rom io top x y z = x
by_class_le Rom ram rom io top x y z = y
by_class_le Io ram rom io top x y z = z
by_class_le Any ram rom io top x y z = z
by_class_le Slow ram rom io top x y z = z
by_class_le Medium ram rom io top x y z = z
by_class_le Fast ram rom io top x y z = z
by_class_le Synchronous ram rom io top x y z = z

cond_le : (b : Bool) (x y top : ℕ) → x ≤ top → y ≤ top → cond b x y ≤ top
cond_le true x y top p q = p
cond_le false x y top p q = q

cond_same : (b : Bool) (x : ℕ) → cond b x x ≡ x
cond_same true x = refl
cond_same false x = refl

-- no word costs more than the dearest device access
pub word_le : (p : Profile) (rom : RomTimes) (store first : Bool) (x : ℕ)
    → word_price p x first store rom ≤ worst_io p
word_le p rom store first x =
    by_class_le (class_of x) _ _ _ _
    (cond_le first _ _ _ p.n_below (cond_le (eqb (x % 16) 0) _ _ _
    (omega (arith, p.n_below, p.quad_second))
    (omega (arith, p.n_below, p.quad_second, p.s_first))))
    (cond_le store _ _ _ p.control_below (omega (arith, rom_le p rom x, p.rom_below)))
    (io_le p x)

word_small : (p : Profile) (rom : RomTimes) (store first : Bool) (x : ℕ)
    → word_price p x first store rom ≤ 255
word_small p rom store first x =
    omega (arith, word_le p rom store first x, p.slow_price, p.medium_price, p.fast_price, p.synchronous_price)

-- a block costs at most its number of words times what each costs at most
pub block_le : (p : Profile) (rom : RomTimes) (store : Bool) (a top k : ℕ)
    → ((i : ℕ) → i < k → (first : Bool) → word_price p (word_address a i) first store rom ≤ top)
    → transfer p a k store rom ≤ k * top
unfolding transfer
block_le p rom store a top zero each = omega arith
block_le p rom store a top (suc k) each =
    let before = block_le p rom store a top k (λ i h first. each i (omega arith) first) in
    omega (arith, before, each k (omega arith) (eqb k 0))

pub block_is : (p : Profile) (rom : RomTimes) (store : Bool) (a top k : ℕ)
    → ((i : ℕ) → i < k → (first : Bool) → word_price p (word_address a i) first store rom ≡ top)
    → transfer p a k store rom ≡ k * top
unfolding transfer
block_is p rom store a top zero each = omega arith
block_is p rom store a top (suc k) each =
    let before = block_is p rom store a top k (λ i h first. each i (omega arith) first) in
    omega (arith, before, each k (omega arith) (eqb k 0))

-- the price of a word, by its class
pub word_at : (p : Profile) (rom : RomTimes) (store first : Bool) (x : ℕ) (c : Class) → class_of x ≡ c
    → word_price p x first store rom ≡ by_class c (cond first p.n (cond (eqb (x % 16) 0) p.quad p.s))
    (cond store p.control (rom_price p x rom)) (io_price p x)
word_at p rom store first x c e =
    let ram : ℕ = cond first p.n (cond (eqb (x % 16) 0) p.quad p.s) in
    ap (λ c. by_class c ram (cond store p.control (rom_price p x rom)) (io_price p x)) e

quad_step : (n k s m d before word : ℕ) → before ≡ n + k * s + m * d → word ≡ s + d
    → before + word ≡ n + suc k * s + suc m * d
quad_step n k s m d before word e f = omega arith

plain_step : (n k s m d before word : ℕ) → before ≡ n + k * s + m * d → word ≡ s
    → before + word ≡ n + suc k * s + m * d
plain_step n k s m d before word e f = omega arith

-- a block in Ram: n for the first word, s for each other, and what quad has more at each multiple of 16
pub ram_block : (p : Profile) (rom : RomTimes) (store : Bool) (a k d : ℕ) → p.quad ≡ p.s + d
    → ((i : ℕ) → i < suc k → class_of (word_address a i) ≡ Ram)
    → transfer p a (suc k) store rom ≡ p.n + k * p.s + ((a / 4 + k) / 4 - a / 4 / 4) * d
unfolding transfer
ram_block p rom store a zero d e each =
    let none : (a / 4 + 0) / 4 - a / 4 / 4 ≡ 0 = omega arith in
    rw none (omega (arith, word_at p rom store true (word_address a 0) Ram (each 0 (omega arith))))
ram_block p rom store a (suc k) d e each =
    let before = ram_block p rom store a k d e (λ i h. each i (omega arith)) in
    let later : eqb (suc k) 0 ≡ false = grind (arith, nat_tests) in
    let x = word_address a (suc k) in
    let follows : ℕ = cond (eqb (x % 16) 0) p.quad p.s in
    let word : word_price p x (eqb (suc k) 0) store rom ≡ follows =
    word_at p rom store (eqb (suc k) 0) x Ram (each (suc k) (omega arith))
    ∙ ap (λ b. cond b p.n follows) later in
    elim (eqb_tells (x % 16) 0) [
      | inl at_quad ↦
          let more : (a / 4 + suc k) / 4 - a / 4 / 4 ≡ suc ((a / 4 + k) / 4 - a / 4 / 4) =
          omega (arith, at_quad.1) in
          let here : word_price p x (eqb (suc k) 0) store rom ≡ p.s + d =
          word ∙ ap (λ b. cond b p.quad p.s) at_quad.0 ∙ e in
          rw more (quad_step p.n k p.s ((a / 4 + k) / 4 - a / 4 / 4) d _ _ before here)
      | inr apart ↦
          let same : (a / 4 + suc k) / 4 - a / 4 / 4 ≡ (a / 4 + k) / 4 - a / 4 / 4 = omega (arith, apart.1) in
          let here : word_price p x (eqb (suc k) 0) store rom ≡ p.s =
          word ∙ ap (λ b. cond b p.quad p.s) apart.0 in
          rw same (plain_step p.n k p.s ((a / 4 + k) / 4 - a / 4 / 4) d _ _ before here)
    ]

pub class_ram : (x : ℕ) → x < 0x3000000 → class_of x ≡ Ram
class_ram x h = grind (arith, nat_tests)

pub class_io : (x : ℕ) → 0x3000000 ≤ x → x < 0x3400000 → class_of x ≡ Io
class_io x l h = grind (arith, nat_tests)

pub class_rom : (x : ℕ) → 0x3400000 ≤ x → class_of x ≡ Rom
class_rom x l = grind (arith, nat_tests)

-- the same field in both halves
abbrev times : (i : ℕ) → i < 4 → RomTimes
times i h = record { low = i; high = i; low_in_range = h; high_in_range = h }

same_sum : (n s d k k' m m' x : ℕ) → x ≡ n + k * s + m * d → k' ≡ k → m' ≡ m → x ≡ n + k' * s + m' * d
same_sum n s d k k' m m' x e f g = rw (f, g) e

above_sum : (n s d k k' m m' x : ℕ) → x ≡ n + k * s + m * d → k' ≡ k → m ≤ m' → x ≤ n + k' * s + m' * d
above_sum n s d k k' m m' x e f g =
    let most : m * d ≤ m' * d = mul-le m d m' d g (omega arith) in
    rw f (omega arith)

split_quad : (p : Profile) → p.quad ≡ p.s + (p.quad - p.s)
split_quad p = omega (arith, p.s_first)

ram_above : (p : Profile) (store : Bool) (k : ℕ) (b : AtTimes) → IsBlockOf Ram (suc k) b
    → transfer_price p (suc k) store b ≤ worst_transfer p Ram (suc k) store
ram_above p store k b h =
    let first = b.address / 4 in
    above_sum p.n p.s (p.quad - p.s) k (suc k - 1) ((first + k) / 4 - first / 4) ((suc k + 2) / 4) _
    (ram_block p b.rom store b.address k (p.quad - p.s) (split_quad p) h.each) (omega arith) (omega arith)

-- from 12 on, words 1, 5, 9 and 13 are at multiples of 16
pub ram_block_at : (p : Profile) (base k : ℕ) (store : Bool) (rom : RomTimes) → base % 16 ≡ 0
    → base + 12 + 4 * suc k ≤ 0x3000000
    → IsDearestBlock p Ram (suc k) store (record { address = base + 12; rom = rom })
ram_block_at p base k store rom whole room =
    let each : (i : ℕ) → i < suc k → class_of (word_address (base + 12) i) ≡ Ram =
    λ i h. class_ram (word_address (base + 12) i) (omega arith) in
    let first = (base + 12) / 4 in
    record {
      of_class = record { below = omega arith; each = each };
      price =
          same_sum p.n p.s (p.quad - p.s) k (suc k - 1) ((first + k) / 4 - first / 4) ((suc k + 2) / 4) _
          (ram_block p rom store (base + 12) k (p.quad - p.s) (split_quad p) each) (omega arith) (omega arith);
    }

rom_word_le : (p : Profile) (rom : RomTimes) (store first : Bool) (x : ℕ) → class_of x ≡ Rom
    → word_price p x first store rom ≤ cond store p.control (worst_rom p)
rom_word_le p rom true first x e = omega (arith, word_at p rom true first x Rom e)
rom_word_le p rom false first x e = omega (arith, word_at p rom false first x Rom e, rom_le p rom x)

rom_fold : (p : Profile) (store : Bool) (k : ℕ)
    → k * cond store p.control (worst_rom p) ≡ worst_transfer p Rom k store
rom_fold p true k = refl
rom_fold p false k = refl

rom_above : (p : Profile) (store : Bool) (k : ℕ) (b : AtTimes) → IsBlockOf Rom k b
    → transfer_price p k store b ≤ worst_transfer p Rom k store
rom_above p store k b h =
    let top : ℕ = cond store p.control (worst_rom p) in
    let each : (i : ℕ) → i < k → (first : Bool)
    → word_price p (word_address b.address i) first store b.rom ≤ top =
    λ i l first. rom_word_le p b.rom store first (word_address b.address i) (h.each i l) in
    omega (arith, block_le p b.rom store b.address top k each, rom_fold p store k)

rom_same : (p : Profile) (i : ℕ) (h : i < 4) (x : ℕ)
    → rom_price p x (times i h) ≡ choice i p.rom_0 p.rom_1 p.rom_2 p.rom_3
rom_same p i h x = ap (λ f. choice f p.rom_0 p.rom_1 p.rom_2 p.rom_3) (cond_same (ltb x 0x3800000) i)

-- the dearest field in both halves
times_dearest : (p : Profile) (i : ℕ) (h : i < 4) → choice i p.rom_0 p.rom_1 p.rom_2 p.rom_3 ≡ worst_rom p
    → AreDearest p (times i h)
times_dearest p i h best x = rom_same p i h x ∙ best

pub dearest_times : (p : Profile) → (rom : RomTimes) × AreDearest p rom
dearest_times p =
    let best = choice_reached p.rom_0 p.rom_1 p.rom_2 p.rom_3 in
    (times best.0 best.1, times_dearest p best.0 best.1 best.2)

pub rom_load : (p : Profile) (k : ℕ) (b : AtTimes) → AreDearest p b.rom → IsBlockOf Rom k b
    → IsDearestBlock p Rom k false b
rom_load p k b best h =
    let x = λ (i : ℕ). word_address b.address i in
    record {
      of_class = h;
      price =
          block_is p b.rom false b.address (worst_rom p) k
          (λ i l first. word_at p b.rom false first (x i) Rom (h.each i l) ∙ best (x i));
    }

pub rom_store : (p : Profile) (k : ℕ) (b : AtTimes) → IsBlockOf Rom k b → IsDearestBlock p Rom k true b
rom_store p k b h = record {
  of_class = h;
  price =
      block_is p b.rom true b.address p.control k
      (λ i l first. word_at p b.rom true first (word_address b.address i) Rom (h.each i l));
}

rom_block : (p : Profile) (store : Bool) (k : ℕ) (b : AtTimes) → AreDearest p b.rom → IsBlockOf Rom k b
    → IsDearestBlock p Rom k store b
rom_block p true k b best h = rom_store p k b h
rom_block p false k b best h = rom_load p k b best h

io_above : (p : Profile) (store : Bool) (k : ℕ) (b : AtTimes) → transfer_price p k store b ≤ k * worst_io p
io_above p store k b =
    block_le p b.rom store b.address (worst_io p) k
    (λ i l first. word_le p b.rom store first (word_address b.address i))

-- the start of the devices of a speed
abbrev page : ℕ → ℕ
page f = 0x3000000 + 0x80000 * f

from_io : (f k : ℕ) → f < 4 → k ≤ 16 → (i : ℕ) → i < k
    → (class_of (word_address (page f) i) ≡ Io) × (word_address (page f) i / 0x80000 % 4 ≡ f)
from_io f k g few i h = (class_io (word_address (page f) i) (omega arith) (omega arith), omega arith)

io_word_is : (p : Profile) (rom : RomTimes) (store first : Bool) (x f : ℕ) → class_of x ≡ Io
    → x / 0x80000 % 4 ≡ f → choice f p.slow p.medium p.fast p.synchronous ≡ worst_io p
    → word_price p x first store rom ≡ worst_io p
io_word_is p rom store first x f e g best =
    word_at p rom store first x Io e ∙ ap (λ f. choice f p.slow p.medium p.fast p.synchronous) g ∙ best

-- a block at the start of the dearest devices
pub io_block : (p : Profile) (f : ℕ) → f < 4 → choice f p.slow p.medium p.fast p.synchronous ≡ worst_io p
    → (k : ℕ) → k ≤ 16 → (store : Bool) (rom : RomTimes)
    → IsDearestBlock p Io k store (record { address = 0x3000000 + 0x80000 * f; rom = rom })
io_block p f g best k few store rom =
    let at = from_io f k g few in
    record {
      of_class = record { below = omega arith; each = λ i l. (at i l).0 };
      price =
          block_is p rom store (page f) (worst_io p) k
          (λ i l first. io_word_is p rom store first (word_address (page f) i) f (at i l).0 (at i l).1 best);
    }

pub any_block : (p : Profile) (k : ℕ) (store : Bool) (b : AtTimes) → IsDearestBlock p Io k store b
    → IsDearestBlock p Any k store b
any_block p k store b io = record {
  of_class = record { below = io.of_class.below; each = λ i l. tt };
  price = io.price;
}

-- a word of a device of a speed, and of a block of such words
speed_word : (p : Profile) (rom : RomTimes) (store first : Bool) (x f : ℕ) → IsDevice f x
    → word_price p x first store rom ≡ choice f p.slow p.medium p.fast p.synchronous
speed_word p rom store first x f d =
    word_at p rom store first x Io d.0 ∙ ap (λ f. choice f p.slow p.medium p.fast p.synchronous) d.1

speed_price : (p : Profile) (f k : ℕ) (store : Bool) (b : AtTimes)
    → ((i : ℕ) → i < k → IsDevice f (word_address b.address i))
    → transfer_price p k store b ≡ k * choice f p.slow p.medium p.fast p.synchronous
speed_price p f k store b each =
    block_is p b.rom store b.address (choice f p.slow p.medium p.fast p.synchronous) k
    (λ i l first. speed_word p b.rom store first (word_address b.address i) f (each i l))

-- wherever it starts
pub slow_block : (p : Profile) (k : ℕ) (store : Bool) (b : AtTimes) → IsBlockOf Slow k b
    → IsDearestBlock p Slow k store b
slow_block p k store b h = record { of_class = h; price = speed_price p 0 k store b h.each }

pub medium_block : (p : Profile) (k : ℕ) (store : Bool) (b : AtTimes) → IsBlockOf Medium k b
    → IsDearestBlock p Medium k store b
medium_block p k store b h = record { of_class = h; price = speed_price p 1 k store b h.each }

pub fast_block : (p : Profile) (k : ℕ) (store : Bool) (b : AtTimes) → IsBlockOf Fast k b
    → IsDearestBlock p Fast k store b
fast_block p k store b h = record { of_class = h; price = speed_price p 2 k store b h.each }

pub synchronous_block : (p : Profile) (k : ℕ) (store : Bool) (b : AtTimes) → IsBlockOf Synchronous k b
    → IsDearestBlock p Synchronous k store b
synchronous_block p k store b h = record { of_class = h; price = speed_price p 3 k store b h.each }

pub speed_block : (p : Profile) (class : Class) (k : ℕ) (store : Bool) (b : AtTimes) → IsSpeed class
    → IsBlockOf class k b → IsDearestBlock p class k store b
speed_block p Slow k store b is h = slow_block p k store b h
speed_block p Medium k store b is h = medium_block p k store b h
speed_block p Fast k store b is h = fast_block p k store b h
speed_block p Synchronous k store b is h = synchronous_block p k store b h
speed_block p Ram k store b is h = absurd is
speed_block p Rom k store b is h = absurd is
speed_block p Io k store b is h = absurd is
speed_block p Any k store b is h = absurd is

-- a block at the start of the devices of a speed
pub at_page : (class : Class) (f : ℕ) → f < 4 → ((x : ℕ) → IsDevice f x → IsOf class x) → (k : ℕ) → k ≤ 16
    → (rom : RomTimes) → IsBlockOf class k (record { address = page f; rom = rom })
at_page class f g is k few rom = record {
  below = omega (arith, g);
  each = λ i l. is (word_address (page f) i) (from_io f k g few i l);
}

-- some time fields
abbrev some_times : RomTimes
some_times = times 0 (omega arith)

-- some block of each class costs the most
dearest_io : (p : Profile) (k : ℕ) (store : Bool) → k ≤ 16 → (b : AtTimes) × IsDearestBlock p Io k store b
dearest_io p k store few =
    let best = choice_reached p.slow p.medium p.fast p.synchronous in
    let block : AtTimes = record { address = page best.0; rom = some_times } in
    (block, io_block p best.0 best.1 best.2 k few store some_times)

dearest_block : (p : Profile) (class : Class) (k : ℕ) (store : Bool) → suc k ≤ 16
    → (b : AtTimes) × IsDearestBlock p class (suc k) store b
dearest_block p Ram k store few =
    (record { address = 12; rom = some_times }, ram_block_at p 0 k store some_times refl (omega arith))
dearest_block p Rom k store few =
    let best = dearest_times p in
    let start : AtTimes = record { address = 0x3400000; rom = best.0 } in
    let of_class : IsBlockOf Rom (suc k) start =
    record { below = omega arith; each = λ i l. class_rom (word_address 0x3400000 i) (omega arith) } in
    (start, rom_block p store (suc k) start best.1 of_class)
dearest_block p Io k store few = dearest_io p (suc k) store few
dearest_block p Any k store few =
    let best = dearest_io p (suc k) store few in
    (best.0, any_block p (suc k) store best.0 best.1)
dearest_block p Slow k store few =
    (_, slow_block p (suc k) store _ (at_page Slow 0 (omega arith) (λ x d. d) (suc k) few some_times))
dearest_block p Medium k store few =
    (_, medium_block p (suc k) store _ (at_page Medium 1 (omega arith) (λ x d. d) (suc k) few some_times))
dearest_block p Fast k store few =
    (_, fast_block p (suc k) store _ (at_page Fast 2 (omega arith) (λ x d. d) (suc k) few some_times))
dearest_block p Synchronous k store few =
    let at = at_page Synchronous 3 (omega arith) (λ x d. d) (suc k) few some_times in
    (_, synchronous_block p (suc k) store _ at)

above : (p : Profile) (class : Class) (k : ℕ) (store : Bool) (b : AtTimes) → IsBlockOf class (suc k) b
    → transfer_price p (suc k) store b ≤ worst_transfer p class (suc k) store
above p Ram k store b h = ram_above p store k b h
above p Rom k store b h = rom_above p store (suc k) b h
above p Io k store b h = io_above p store (suc k) b
above p Any k store b h = io_above p store (suc k) b
above p Slow k store b h = omega (arith, speed_price p 0 (suc k) store b h.each)
above p Medium k store b h = omega (arith, speed_price p 1 (suc k) store b h.each)
above p Fast k store b h = omega (arith, speed_price p 2 (suc k) store b h.each)
above p Synchronous k store b h = omega (arith, speed_price p 3 (suc k) store b h.each)

pub worst_block_greatest : (p : Profile) (class : Class) (k : ℕ) (store : Bool) → suc k ≤ 16
    → IsGreatest (IsBlockOf class (suc k)) (transfer_price p (suc k) store) (worst_transfer p class (suc k) store)
worst_block_greatest p class k store few =
    let best = dearest_block p class k store few in
    record { none_above = above p class k store; reached = (best.0, best.1.of_class, best.1.price) }

-- the same, as a call has it
pub worst_transfer_greatest : (p : Profile) (class : Class) (words : ℕ) (store : Bool) (top : ℕ) → 1 ≤ words
    → words ≤ 16 → top ≡ worst_transfer p class words store
    → IsGreatest (IsBlockOf class words) (transfer_price p words store) top
worst_transfer_greatest p class zero store top some few e = absurd (omega arith)
worst_transfer_greatest p class (suc k) store top some few e = rw e (worst_block_greatest p class k store few)

-- and no word of it costs more than 255 ticks
pub worst_block_small : (p : Profile) (class : Class) (words : ℕ) (store : Bool) (top : ℕ) → 1 ≤ words
    → words ≤ 16 → top ≡ worst_transfer p class words store → top ≤ 255 * words
worst_block_small p class words store top some few e =
    let best = (worst_transfer_greatest p class words store top some few e).reached in
    let b = best.0 in
    let each : (i : ℕ) → i < words → (first : Bool)
    → word_price p (word_address b.address i) first store b.rom ≤ 255 =
    λ i h first. word_small p b.rom store first (word_address b.address i) in
    omega (arith, best.2, block_le p b.rom store b.address 255 words each)
