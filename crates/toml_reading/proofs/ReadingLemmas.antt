-- What holds of all that is read.
use Rattle.std.proofs.Common.{◌≡◌, ℕ, ℤ, pos, negsuc, ◌+◌, ◌%◌, ◌^◌, ◌<◌, ◌≤◌, Bool, true, false, ◌&&◌, cond, nat_le, eqb, leb, ltb, List, [], ◌∷◌, length, map, fold, Option, Some, None, Ok, Err, refl, ap, ◌∙◌, arith, length-append}
use Rattle.std.specs.Prelude.{All, IfOk}
use Rattle.std.proofs.lemmas.Bool.{and_parts, leb-true, ltb-true}
use Rattle.std.proofs.lemmas.List.Elements.{All-nil, All-push}
use Rattle.toml.specs.Data.{Data, Members, as_integer, get_member}
use Rattle.toml.specs.View.{items_of}
use Rattle.toml_reading.specs.Documents.{in_space, items_at, list_of, listed, listed_up_to, number_at, number_in, tables_up_to}
use Rattle.toml_reading.specs.Readings.{Faults, Reading, after, all, and_then, pair, check, optional, required, reading_map, up_to}

pub list_of-items_of : (ds : List Data) → list_of (items_of ds) ≡ ds
list_of-items_of [] = refl
list_of-items_of (d ∷ ds) = ap (λ xs. d ∷ xs) (list_of-items_of ds)

-- ## A fact of what is read

module _ {F A : Type 0} (fs : Faults F) (P : A → Type 0) where
  pub check_holds : (b : Bool) (f : F) (r : Reading F A) → IfOk r P → IfOk (check fs b f r) P
  check_holds true f r h = h
  check_holds false f (Ok a) h = tt
  check_holds false f (Err g) h = tt

  pub and_then_holds : {B : Type 0} (r : Reading F B) (f : B → Reading F A) → ((b : B) → IfOk (f b) P) → IfOk (and_then r f) P
  and_then_holds (Ok b) f h = h b
  and_then_holds (Err g) f h = tt

  -- the same where something holds of the first
  pub follows_holds : {B : Type 0} (Q : B → Type 0) (r : Reading F B) (f : B → Reading F A) → IfOk r Q → ((b : B) → Q b → IfOk (f b) P) → IfOk (and_then r f) P
  follows_holds Q (Ok b) f q h = h b q
  follows_holds Q (Err g) f q h = tt

  pub required_holds : {B : Type 0} (o : Option B) (f : B → Reading F A) → ((b : B) → IfOk (f b) P) → IfOk (required fs o f) P
  required_holds None f h = tt
  required_holds (Some b) f h = h b

  pub optional_holds : {B : Type 0} (missing : A) (o : Option B) (f : B → Reading F A) → P missing → ((b : B) → IfOk (f b) P) → IfOk (optional missing o f) P
  optional_holds missing None f p h = p
  optional_holds missing (Some b) f p h = h b

  pub test_holds : (b : Bool) (a : A) (f : F) → (b ≡ true → P a) → IfOk (cond b (Ok a) (Err f)) P
  test_holds true a f h = h refl
  test_holds false a f h = tt

  after_holds : (list : Reading F (List A)) (r : Reading F A) → IfOk list (All P) → IfOk r P → IfOk (after fs list r) (All P)
  after_holds (Ok xs) (Ok a) h k = All-push P xs a h k
  after_holds (Ok xs) (Err g) h k = tt
  after_holds (Err f) (Ok a) h k = tt
  after_holds (Err f) (Err g) h k = tt

  gathered_holds : (reads : Data → Reading F A) → ((d : Data) → IfOk (reads d) P) → (ds : List Data) (list : Reading F (List A)) → IfOk list (All P) → IfOk (fold (after fs) list (map reads ds)) (All P)
  gathered_holds reads each [] list h = h
  gathered_holds reads each (d ∷ ds) list h = gathered_holds reads each ds (after fs list (reads d)) (after_holds list (reads d) h (each d))

  pub listed_holds : (reads : Data → Reading F A) → ((d : Data) → IfOk (reads d) P) → (ds : List Data) → IfOk (listed fs reads ds) (All P)
  listed_holds reads each ds = gathered_holds reads each ds (Ok []) (All-nil P)

  -- the same of at most so many
  pub listed_up_to_holds : (reads : Data → Reading F A) → ((d : Data) → IfOk (reads d) P) → (limit : ℕ) (ds : List Data) → IfOk (listed_up_to fs limit reads ds) (All P)
  listed_up_to_holds reads each limit ds = of_listed (nat_le (length ds) limit) (listed fs reads ds) (listed_holds reads each ds)
    where
      of_listed : (b : Bool) (r : Reading F (List A)) → IfOk r (All P) → IfOk (check fs b fs.out_of_range r) (All P)
      of_listed true r h = h
      of_listed false (Ok a) h = tt
      of_listed false (Err g) h = tt

  pub tables_up_to_hold : (reads : Data → Reading F A) → ((d : Data) → IfOk (reads d) P) → (limit : ℕ) (o : Option Data) → IfOk (tables_up_to fs limit reads o) (All P)
  tables_up_to_hold reads each limit None = All-nil P
  tables_up_to_hold reads each limit (Some d) = of_list (items_at d)
    where
      of_list : (o : Option (List Data)) → IfOk (required fs o (listed_up_to fs limit reads)) (All P)
      of_list None = tt
      of_list (Some ds) = listed_up_to_holds reads each limit ds

pub pair_holds : {F A B : Type 0} (fs : Faults F) (P : A → Type 0) (Q : B → Type 0) (a : Reading F A) (b : Reading F B) → IfOk a P → IfOk b Q → IfOk (pair fs a b) (λ p. P p.0 × Q p.1)
pair_holds fs P Q (Ok a) (Ok b) h k = (h, k)
pair_holds fs P Q (Ok a) (Err g) h k = tt
pair_holds fs P Q (Err f) (Ok b) h k = tt
pair_holds fs P Q (Err f) (Err g) h k = tt

module _ {F A B : Type 0} (fs : Faults F) where
  pub first_holds : (P : A → Type 0) (a : Reading F A) (b : Reading F B) → IfOk a P → IfOk (pair fs a b) (λ p. P p.0)
  first_holds P (Ok a) (Ok b) h = h
  first_holds P (Ok a) (Err g) h = tt
  first_holds P (Err f) (Ok b) h = tt
  first_holds P (Err f) (Err g) h = tt

  pub second_holds : (Q : B → Type 0) (a : Reading F A) (b : Reading F B) → IfOk b Q → IfOk (pair fs a b) (λ p. Q p.1)
  second_holds Q (Ok a) (Ok b) k = k
  second_holds Q (Ok a) (Err g) k = tt
  second_holds Q (Err f) (Ok b) k = tt
  second_holds Q (Err f) (Err g) k = tt

module _ {F A : Type 0} (P Q : A → Type 0) where
  pub implied : (r : Reading F A) → ((a : A) → P a → Q a) → IfOk r P → IfOk r Q
  implied (Ok a) f h = f a h
  implied (Err g) f h = tt

  pub also_holds : (r : Reading F A) → IfOk r P → IfOk r Q → IfOk r (λ a. P a × Q a)
  also_holds (Ok a) h k = (h, k)
  also_holds (Err g) h k = tt

-- ## A function of each of two parts

module _ {F A B C D : Type 0} (fs : Faults F) (f : A → C) (g : B → D) where
  pub map_pair : (a : Reading F A) (b : Reading F B) → reading_map (λ (p : A × B). (f p.0, g p.1)) (pair fs a b) ≡ pair fs (reading_map f a) (reading_map g b)
  map_pair (Ok a) (Ok b) = refl
  map_pair (Ok a) (Err h) = refl
  map_pair (Err e) (Ok b) = refl
  map_pair (Err e) (Err h) = refl

pub map_second : {F A B D : Type 0} (fs : Faults F) (g : B → D) (a : Reading F A) (b : Reading F B) → reading_map (λ (p : A × B). (p.0, g p.1)) (pair fs a b) ≡ pair fs a (reading_map g b)
map_second fs g (Ok a) (Ok b) = refl
map_second fs g (Ok a) (Err h) = refl
map_second fs g (Err f) (Ok b) = refl
map_second fs g (Err f) (Err h) = refl

-- ## Numbers

module _ {F : Type 0} (fs : Faults F) (limit : ℕ) where
  pub up_to_holds : (z : ℤ) → IfOk (up_to fs limit z) (λ n. n ≤ limit)
  up_to_holds (pos n) = test_holds fs (λ (m : ℕ). m ≤ limit) (leb n limit) n fs.out_of_range (leb-true n limit)
  up_to_holds (negsuc n) = tt

  pub number_at_holds : (d : Data) → IfOk (number_at fs limit d) (λ n. n ≤ limit)
  number_at_holds d = required_holds fs (λ (m : ℕ). m ≤ limit) (as_integer d) (up_to fs limit) up_to_holds

  pub number_in_holds : (key : List ℕ) (ms : Members) → IfOk (number_in fs key limit ms) (λ n. n ≤ limit)
  number_in_holds key ms = required_holds fs (λ (m : ℕ). m ≤ limit) (get_member key ms) (number_at fs limit) number_at_holds

pub in_space_holds : {F : Type 0} (fs : Faults F) (z : ℤ) → IfOk (in_space fs z) (λ n. n < 2 ^ 26)
in_space_holds fs (pos n) =
    test_holds fs (λ (m : ℕ). m < 2 ^ 26) (eqb (n % 4) 0 && ltb n (2 ^ 26)) n fs.out_of_range
    (λ e. ltb-true n (2 ^ 26) (and_parts (eqb (n % 4) 0) (ltb n (2 ^ 26)) e).1)
in_space_holds fs (negsuc n) = tt

-- ## How many

module _ {F A X : Type 0} (fs : Faults F) (reads : X → Reading F A) where
  after_length : (n : ℕ) (list : Reading F (List A)) (r : Reading F A) → IfOk list (λ xs. length xs ≡ n) → IfOk (after fs list r) (λ xs. length xs ≡ n + 1)
  after_length n (Ok xs) (Ok a) h = length-append xs (a ∷ []) ∙ ap (λ (m : ℕ). m + 1) h
  after_length n (Ok xs) (Err g) h = tt
  after_length n (Err f) (Ok a) h = tt
  after_length n (Err f) (Err g) h = tt

  gathered_length : (ds : List X) (n : ℕ) (list : Reading F (List A)) → IfOk list (λ xs. length xs ≡ n) → IfOk (fold (after fs) list (map reads ds)) (λ xs. length xs ≡ n + length ds)
  gathered_length [] n list h = of_sum list h
    where
      of_sum : (r : Reading F (List A)) → IfOk r (λ xs. length xs ≡ n) → IfOk r (λ xs. length xs ≡ n + 0)
      of_sum (Ok xs) e = omega (arith, e)
      of_sum (Err f) e = tt
  gathered_length (d ∷ ds) n list h = of_sum (fold (after fs) (after fs list (reads d)) (map reads ds)) (gathered_length ds (n + 1) (after fs list (reads d)) (after_length n list (reads d) h))
    where
      of_sum : (r : Reading F (List A)) → IfOk r (λ xs. length xs ≡ n + 1 + length ds) → IfOk r (λ xs. length xs ≡ n + length (d ∷ ds))
      of_sum (Ok xs) e = let l : length xs ≡ n + 1 + length ds = e in omega arith
      of_sum (Err f) e = tt

  -- as many are read as there are
  pub all_length : (ds : List X) → IfOk (all fs (map reads ds)) (λ xs. length xs ≡ length ds)
  all_length ds = of_sum (all fs (map reads ds)) (gathered_length ds 0 (Ok []) refl)
    where
      of_sum : (r : Reading F (List A)) → IfOk r (λ xs. length xs ≡ 0 + length ds) → IfOk r (λ xs. length xs ≡ length ds)
      of_sum (Ok xs) e = let l : length xs ≡ 0 + length ds = e in omega arith
      of_sum (Err f) e = tt

module _ {F A : Type 0} (fs : Faults F) (reads : Data → Reading F A) (limit : ℕ) where
  listed_few : (ds : List Data) → IfOk (listed_up_to fs limit reads ds) (λ xs. length xs ≤ limit)
  listed_few ds = few (nat_le (length ds) limit) (listed fs reads ds) refl (all_length fs reads ds)
    where
      few : (b : Bool) (r : Reading F (List A)) → nat_le (length ds) limit ≡ b → IfOk r (λ xs. length xs ≡ length ds) → IfOk (check fs b fs.out_of_range r) (λ xs. length xs ≤ limit)
      few true (Ok xs) e h = let l : length xs ≡ length ds = h in omega (arith, leb-true (length ds) limit e)
      few true (Err f) e h = tt
      few false (Ok xs) e h = tt
      few false (Err f) e h = tt

  -- no more are read than the limit
  pub tables_few : (o : Option Data) → IfOk (tables_up_to fs limit reads o) (λ xs. length xs ≤ limit)
  tables_few None = omega arith
  tables_few (Some d) = of_items (items_at d)
    where
      of_items : (o : Option (List Data)) → IfOk (required fs o (listed_up_to fs limit reads)) (λ xs. length xs ≤ limit)
      of_items None = tt
      of_items (Some ds) = listed_few ds
