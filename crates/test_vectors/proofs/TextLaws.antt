-- The texts of vectors, part by part.
use Rattle.std.proofs.Common.{◌≡◌, ◌∙◌, ℕ, zero, suc, ◌+◌, Bool, true, false, cond, List, [], ◌∷◌, ◌++◌, Option, Some, None, map, codes, refl, sym, ap, append_assoc, arith, subst, true≢false, ◌-◌, ◌<◌, length, take, drop, get_or}
use Rattle.std.proofs.lemmas.List.{append-nil, map-append}
use Rattle.std.proofs.Common.{take_all}
use Rattle.std.specs.List.{flat_map}
use Rattle.std.specs.Fmt.{decimal}
use Rattle.memc.specs.Memory.{Memory}
use Rattle.bus_ticks.specs.Prices.{ahead_of, word_address}
use Rattle.arm2_effect.specs.Effects.{Access, FetchN, FetchS, Word, Internal, refill}
use Rattle.arm2_effect.specs.declared.modes.Mode.{Mode}
use Rattle.arm2_effect.specs.declared.modes.Mode.TheVariants.{User, Fiq, Irq, Svc}
use Rattle.arm2_effect.specs.Modes.{r15_in, register_in}
use Rattle.arm2_transfer.specs.Moved.{words_at}
use Rattle.json_trace.specs.Json.{array, continued, ended, member, object, quoted, separated}
use Rattle.json_trace.specs.StepLine.{memory_word, register_name}
use Rattle.test_vectors.specs.Shape.{is_store, shape}
use Rattle.test_vectors.specs.Vector.{access_value, bank, internal_object, r15_members, register_members, state_value, word_pair}
use Rattle.test_vectors.specs.Writing.{accesses_text, ahead_object, moved_object, moved_objects, pair_of, ram_text, refill_objects, shown_at}
use Rattle.test_vectors.specs.declared.bus_use.BusUse.{BusUse}
use Rattle.test_vectors.specs.declared.bus_use.BusUse.TheVariants.{Nothing, Fetches, Loads, Stores}
use Rattle.test_vectors.specs.declared.shown_words.ShownWord.{ShownWord}

pub ended_append : (xs ys : List (List ℕ)) → ended (xs ++ ys) ≡ ended xs ++ ended ys
ended_append [] ys = refl
ended_append (x ∷ xs) ys =
    ap (λ (t : List ℕ). x ++ (codes "," ++ t)) (ended_append xs ys)
    ∙ sym (append_assoc x (codes "," ++ ended xs) (ended ys))

-- before others items end with commas
separated_append : (xs ys : List (List ℕ)) (y : List ℕ)
    → separated (xs ++ y ∷ ys) ≡ ended xs ++ separated (y ∷ ys)
separated_append [] ys y = refl
separated_append (x ∷ []) ys y = sym (append_assoc x (codes ",") (separated (y ∷ ys)))
separated_append (x ∷ z ∷ xs) ys y =
    ap (λ (t : List ℕ). x ++ (codes "," ++ t)) (separated_append (z ∷ xs) ys y)
    ∙ sym (append_assoc x (codes "," ++ ended (z ∷ xs)) (separated (y ∷ ys)))

continued_append : (xs ys : List (List ℕ)) → continued (xs ++ ys) ≡ continued xs ++ continued ys
continued_append [] ys = refl
continued_append (x ∷ xs) ys =
    ap (λ (t : List ℕ). codes "," ++ (x ++ t)) (continued_append xs ys)
    ∙ ap (λ (t : List ℕ). codes "," ++ t) (sym (append_assoc x (continued xs) (continued ys)))

-- ## States

-- one register more
pub bank_next : (mode : Mode) (regs : List ℕ) (first k word : ℕ) → word ≡ register_in mode (first + k) regs
    → ended (bank mode regs first k) ++ ended (member (register_name mode (first + k)) (decimal word) ∷ [])
    ≡ ended (bank mode regs first (k + 1))
bank_next mode regs first k word is =
    let item : ℕ → List ℕ = λ (w : ℕ). member (register_name mode (first + k)) (decimal w) in
    let next : suc k ≡ k + 1 = omega arith in
    ap (λ (w : ℕ). ended (bank mode regs first k) ++ ended (item w ∷ [])) is
    ∙ sym (ended_append (bank mode regs first k) (item (register_in mode (first + k) regs) ∷ []))
    ∙ ap (λ (n : ℕ). ended (bank mode regs first n)) next

pairs_are : (m : Memory) (xs : List ℕ) → map pair_of (map (shown_at m) xs) ≡ map (word_pair m) xs
pairs_are m [] = refl
pairs_are m (x ∷ xs) = ap (λ (t : List (List ℕ)). word_pair m x ∷ t) (pairs_are m xs)

-- words with commas between them
pub words_put : (first : ShownWord) (rest : List ShownWord)
    → pair_of first ++ flat_map (λ word. codes "," ++ pair_of word) rest ≡ separated (map pair_of (first ∷ rest))
words_put first rest = ap (λ (t : List ℕ). pair_of first ++ t) (go rest)
  where
    go : (xs : List ShownWord) → flat_map (λ word. codes "," ++ pair_of word) xs ≡ continued (map pair_of xs)
    go [] = refl
    go (x ∷ xs) = ap (λ (t : List ℕ). (codes "," ++ pair_of x) ++ t) (go xs)
        ∙ append_assoc (codes ",") (pair_of x) (continued (map pair_of xs))

-- the front of a state and its end
pub state_is : (regs : List ℕ) (m : Memory) (xs : List ℕ)
    → (codes "{" ++ ended (register_members regs)) ++ ram_text (map (shown_at m) xs) ≡ state_value regs m xs
state_is regs m xs =
    let y = member (codes "ram") (array (map pair_of (map (shown_at m) xs))) in
    let e = ended (register_members regs) in
    let last : separated (register_members regs ++ y ∷ []) ≡ e ++ y =
    separated_append (register_members regs) [] y ∙ ap (λ (t : List ℕ). e ++ t) (append-nil y) in
    append_assoc (codes "{") e (y ++ codes "}")
    ∙ ap (λ (t : List ℕ). codes "{" ++ t) (sym (append_assoc e y (codes "}")) ∙ ap (λ (t : List ℕ). t ++ codes "}") (sym last))
    ∙ ap (λ (ps : List (List ℕ)). object (register_members regs ++ member (codes "ram") (array ps) ∷ [])) (pairs_are m xs)

-- ## Accesses

moved_are : (before after : Memory) (store : Bool) (address k : ℕ)
    → continued (map (access_value before after) (words_at store address k)) ≡ moved_objects after store address k
unfolding words_at
moved_are before after store address zero = refl
moved_are before after store address (suc k) =
    let f = access_value before after in
    let item = moved_object after store address k in
    ap continued (map-append f (words_at store address k) _)
    ∙ continued_append (map f (words_at store address k)) (item ∷ [])
    ∙ ap (λ (t : List ℕ). t ++ (codes "," ++ (item ++ []))) (moved_are before after store address k)
    ∙ ap (λ (t : List ℕ). moved_objects after store address k ++ (codes "," ++ t)) (append-nil item)

refill_are : (m : Memory) (jumps : Bool) (t : ℕ)
    → continued (map (access_value m m) (cond jumps (refill t) [])) ≡ refill_objects m jumps t
refill_are m true t =
    ap (λ (x : List ℕ). codes "," ++ (access_value m m (FetchN t) ++ (codes "," ++ x))) (append-nil (access_value m m (FetchS (ahead_of t 4))))
refill_are m false t = refl

module _ (m : Memory) (at to : ℕ) where
  ahead : Option ℕ
  ahead = memory_word m false (ahead_of at 8)

  same_memory : (done : BusUse) → is_store done ≡ false
      → accesses_text m done at ahead to ≡ separated (map (access_value m m) (shape done at to))
  unfolding ahead
  same_memory Nothing other = refl
  same_memory (Fetches None jumps) other =
      ap (λ (t : List ℕ). ahead_object at ahead true ++ t) (sym (refill_are m jumps to))
  same_memory (Fetches (Some n) jumps) other =
      append_assoc (internal_object n) (codes ",") (ahead_object at ahead true ++ refill_objects m jumps to)
      ∙ ap (λ (t : List ℕ). internal_object n ++ (codes "," ++ (ahead_object at ahead true ++ t))) (sym (refill_are m jumps to))
  same_memory (Loads words jumps) other =
      let f = access_value m m in
      let ws = words_at words.store words.address words.words in
      let rest = cond jumps (refill to) [] in
      let tail : continued (map f (ws ++ Internal 1 ∷ rest))
      ≡ moved_objects m words.store words.address words.words ++ (codes "," ++ (internal_object 1 ++ refill_objects m jumps to)) =
      ap continued (map-append f ws (Internal 1 ∷ rest))
      ∙ continued_append (map f ws) (map f (Internal 1 ∷ rest))
      ∙ ap (λ (t : List ℕ). t ++ continued (map f (Internal 1 ∷ rest))) (moved_are m m words.store words.address words.words)
      ∙ ap (λ (t : List ℕ). moved_objects m words.store words.address words.words ++ (codes "," ++ (internal_object 1 ++ t))) (refill_are m jumps to) in
      ap (λ (t : List ℕ). ahead_object at ahead true ++ t) (sym tail)
  same_memory (Stores words) other = absurd (true≢false other)

  stored_memory : (after : Memory) (done : BusUse) → is_store done ≡ true
      → accesses_text after done at ahead to ≡ separated (map (access_value m after) (shape done at to))
  unfolding ahead
  stored_memory after Nothing other = absurd (true≢false (sym other))
  stored_memory after (Fetches delay jumps) other = absurd (true≢false (sym other))
  stored_memory after (Loads words jumps) other = absurd (true≢false (sym other))
  stored_memory after (Stores words) other =
      ap (λ (t : List ℕ). ahead_object at ahead false ++ t) (sym (moved_are m after words.store words.address words.words))

-- the text of a step's accesses is that of the definition
pub accesses_are : (before after : Memory) (done : BusUse) (at to : ℕ) (found : Option ℕ)
    → memory_word before false (ahead_of at 8) ≡ found → (is_store done ≡ false → after ≡ before)
    → accesses_text after done at found to ≡ separated (map (access_value before after) (shape done at to))
unfolding ahead
accesses_are before after done at to found is kept =
    ap (λ (w : Option ℕ). accesses_text after done at w to) (sym is) ∙ go (is_store done) refl
  where
    go : (b : Bool) → is_store done ≡ b
        → accesses_text after done at (memory_word before false (ahead_of at 8)) to ≡ separated (map (access_value before after) (shape done at to))
    go true stores = stored_memory before at to after done stores
    go false other =
        subst
        (λ (x : Memory). accesses_text x done at (memory_word before false (ahead_of at 8)) to ≡ separated (map (access_value before x) (shape done at to)))
        (sym (kept other)) (same_memory before at to done other)

-- the fetches of a jump
pub refill_put : (m : Memory) (jumps : Bool) (to : ℕ) → jumps ≡ true
    → (codes "," ++ access_value m m (FetchN to)) ++ (codes "," ++ access_value m m (FetchS (ahead_of to 4))) ≡ refill_objects m jumps to
refill_put m true to jumps = append_assoc (codes ",") (access_value m m (FetchN to)) (codes "," ++ access_value m m (FetchS (ahead_of to 4)))
refill_put m false to jumps = absurd (true≢false (sym jumps))

-- one word more
pub moved_put : (m : Memory) (store : Bool) (address k : ℕ)
    → moved_objects m store address k ++ (codes "," ++ moved_object m store address k) ≡ moved_objects m store address (k + 1)
moved_put m store address k =
    let next : suc k ≡ k + 1 = omega arith in
    ap (λ (n : ℕ). moved_objects m store address n) next

-- the registers, bank after bank
pub registers_put : (regs : List ℕ)
    → codes "{" ++ (ended (bank User regs 0 15) ++ (ended (bank Fiq regs 8 7) ++ (ended (bank Irq regs 13 2) ++ (ended (bank Svc regs 13 2) ++ ended (r15_members (r15_in regs))))))
    ≡ codes "{" ++ ended (register_members regs)
registers_put regs =
    let a = bank User regs 0 15 in
    let b = bank Fiq regs 8 7 in
    let c = bank Irq regs 13 2 in
    let d = bank Svc regs 13 2 in
    let e = r15_members (r15_in regs) in
    ap (λ (t : List ℕ). codes "{" ++ t)
    (sym (ended_append a (b ++ (c ++ (d ++ e))) ∙ ap (λ (t : List ℕ). ended a ++ t)
    (ended_append b (c ++ (d ++ e)) ∙ ap (λ (t : List ℕ). ended b ++ t)
    (ended_append c (d ++ e) ∙ ap (λ (t : List ℕ). ended c ++ t) (ended_append d e)))))

-- four members, of which the first is a string, and three with commas, of which the first is none
flat_object : (o c x q n1 k n2 f n3 a n4 v : List ℕ)
    → o ++ (((n1 ++ (q ++ (k ++ q))) ++ (c ++ ((n2 ++ f) ++ (c ++ ((n3 ++ a) ++ (c ++ ((n4 ++ v) ++ []))))))) ++ x)
    ≡ o ++ (n1 ++ (q ++ (k ++ (q ++ (c ++ (n2 ++ (f ++ (c ++ (n3 ++ (a ++ (c ++ (n4 ++ (v ++ x)))))))))))))
flat_object o c x q n1 k n2 f n3 a n4 v = simp (append_assoc, append-nil)

flat_ended : (c q n1 r n2 m n3 f : List ℕ)
    → (n1 ++ r) ++ (c ++ ((n2 ++ (q ++ (m ++ q))) ++ (c ++ ((n3 ++ (q ++ (f ++ q))) ++ (c ++ [])))))
    ≡ n1 ++ (r ++ (c ++ (n2 ++ (q ++ (m ++ (q ++ (c ++ (n3 ++ (q ++ (f ++ (q ++ (c ++ []))))))))))))
flat_ended c q n1 r n2 m n3 f = simp append_assoc

flat_pieces : (p k r f t a d v x : List ℕ)
    → (p ++ (k ++ (r ++ (f ++ (t ++ (a ++ (d ++ []))))))) ++ (v ++ x)
    ≡ p ++ (k ++ (r ++ (f ++ (t ++ (a ++ (d ++ (v ++ x)))))))
flat_pieces p k r f t a d v x = simp (append_assoc, append-nil)

pub object_is : (k f a v : List ℕ) (n1 n2 n3 n4 : List ℕ)
    → object (member n1 (quoted k) ∷ member n2 f ∷ member n3 a ∷ member n4 v ∷ [])
    ≡ codes "{" ++ ((quoted n1 ++ codes ":") ++ (codes "\"" ++ (k ++ (codes "\"" ++ (codes "," ++ ((quoted n2 ++ codes ":") ++ (f ++ (codes ","
    ++ ((quoted n3 ++ codes ":") ++ (a ++ (codes "," ++ ((quoted n4 ++ codes ":") ++ (v ++ codes "}")))))))))))))
object_is k f a v n1 n2 n3 n4 =
    let m : (n v : List ℕ) → member n v ≡ (quoted n ++ codes ":") ++ v = λ n v. sym (append_assoc (quoted n) (codes ":") v) in
    let b1 = (quoted n1 ++ codes ":") ++ quoted k in
    let b2 = (quoted n2 ++ codes ":") ++ f in
    let b3 = (quoted n3 ++ codes ":") ++ a in
    ap (λ (x : List ℕ). object (x ∷ member n2 f ∷ member n3 a ∷ member n4 v ∷ [])) (m n1 (quoted k))
    ∙ ap (λ (x : List ℕ). object (b1 ∷ x ∷ member n3 a ∷ member n4 v ∷ [])) (m n2 f)
    ∙ ap (λ (x : List ℕ). object (b1 ∷ b2 ∷ x ∷ member n4 v ∷ [])) (m n3 a)
    ∙ ap (λ (x : List ℕ). object (b1 ∷ b2 ∷ b3 ∷ x ∷ [])) (m n4 v)
    ∙ flat_object (codes "{") (codes ",") (codes "}") (codes "\"") (quoted n1 ++ codes ":") k (quoted n2 ++ codes ":") f (quoted n3 ++ codes ":") a
    (quoted n4 ++ codes ":") v

-- an access, piece by piece
pub access_put : (k f a v k2 f2 a2 : List ℕ) → k ≡ k2 → f ≡ f2 → a ≡ a2
    → (codes "{\"kind\":\"" ++ (k ++ (codes "\",\"sequential\":" ++ (f ++ (codes ",\"address\":" ++ (a ++ (codes ",\"value\":" ++ [])))))))
    ++ (v ++ codes "}")
    ≡ object
    (member (codes "kind") (quoted k2) ∷ member (codes "sequential") f2 ∷ member (codes "address") a2
    ∷ member (codes "value") v ∷ [])
access_put k f a v k2 f2 a2 ke fe ae =
    flat_pieces (codes "{\"kind\":\"") k (codes "\",\"sequential\":") f (codes ",\"address\":") a (codes ",\"value\":") v (codes "}")
    ∙ ap (λ (t : List ℕ). codes "{\"kind\":\"" ++ (t ++ (codes "\",\"sequential\":" ++ (f ++ (codes ",\"address\":" ++ (a ++ (codes ",\"value\":" ++ (v ++ codes "}")))))))) ke
    ∙ ap (λ (t : List ℕ). codes "{\"kind\":\"" ++ (k2 ++ (codes "\",\"sequential\":" ++ (t ++ (codes ",\"address\":" ++ (a ++ (codes ",\"value\":" ++ (v ++ codes "}")))))))) fe
    ∙ ap (λ (t : List ℕ). codes "{\"kind\":\"" ++ (k2 ++ (codes "\",\"sequential\":" ++ (f2 ++ (codes ",\"address\":" ++ (t ++ (codes ",\"value\":" ++ (v ++ codes "}")))))))) ae
    ∙ sym (object_is k2 f2 a2 v (codes "kind") (codes "sequential") (codes "address") (codes "value"))

pub r15_put : (r m f r2 m2 f2 : List ℕ) → r ≡ r2 → m ≡ m2 → f ≡ f2
    → codes "\"R15\":" ++ (r ++ (codes ",\"mode\":\"" ++ (m ++ (codes "\",\"flags\":\"" ++ (f ++ (codes "\"," ++ []))))))
    ≡ ended (member (codes "R15") r2 ∷ member (codes "mode") (quoted m2) ∷ member (codes "flags") (quoted f2) ∷ [])
r15_put r m f r2 m2 f2 re me fe =
    ap (λ (t : List ℕ). codes "\"R15\":" ++ (t ++ (codes ",\"mode\":\"" ++ (m ++ (codes "\",\"flags\":\"" ++ (f ++ (codes "\"," ++ []))))))) re
    ∙ ap (λ (t : List ℕ). codes "\"R15\":" ++ (r2 ++ (codes ",\"mode\":\"" ++ (t ++ (codes "\",\"flags\":\"" ++ (f ++ (codes "\"," ++ []))))))) me
    ∙ ap (λ (t : List ℕ). codes "\"R15\":" ++ (r2 ++ (codes ",\"mode\":\"" ++ (m2 ++ (codes "\",\"flags\":\"" ++ (t ++ (codes "\"," ++ []))))))) fe
    ∙ sym (flat_ended (codes ",") (codes "\"") (codes "\"R15\":") r2 (codes "\"mode\":") m2 (codes "\"flags\":") f2)

pub ram_put : (t : List ℕ) → codes "\"ram\":[" ++ (t ++ codes "]}") ≡ member (codes "ram") (codes "[" ++ (t ++ codes "]")) ++ codes "}"
ram_put t = ap (λ (x : List ℕ). codes "\"ram\":[" ++ x) (sym (append_assoc t (codes "]") (codes "}")))

-- words by their list
pub words_from : (ws : List ShownWord) (other : ShownWord) → 0 < length ws
    → pair_of (get_or ws 0 other) ++ flat_map (λ word. codes "," ++ pair_of word) (take (length ws - 1) (drop 1 ws))
    ≡ separated (map pair_of ws)
words_from [] other some = absurd (omega (arith, some))
words_from (x ∷ xs) other some =
    ap (λ (ys : List ShownWord). pair_of x ++ flat_map (λ word. codes "," ++ pair_of word) ys) (take_all (length (x ∷ xs) - 1) xs (omega arith))
    ∙ words_put x xs
