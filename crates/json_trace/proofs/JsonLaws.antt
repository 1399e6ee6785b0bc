-- Lists of JSON values, part after part.
use Rattle.std.proofs.Common.{◌≡◌, ◌∙◌, ℕ, zero, suc, ◌+◌, Bool, List, [], ◌∷◌, ◌++◌, map, codes, refl, sym, ap, append_assoc, arith, subst}
use Rattle.std.proofs.lemmas.List.{append-nil, map-append}
use Rattle.arm2_effect.specs.declared.modes.Mode.{Mode}
use Rattle.bus_ticks.specs.Prices.{word_address}
use Rattle.json_trace.specs.Json.{continued, ended, object, separated}
use Rattle.json_trace.specs.Planned.{comma, words_from}
use Rattle.json_trace.specs.StepLine.{Transfer, changed, if_changed}

ended_append : (xs ys : List (List ℕ)) → ended (xs ++ ys) ≡ ended xs ++ ended ys
ended_append [] ys = refl
ended_append (x ∷ xs) ys =
    ap (λ (t : List ℕ). x ++ (codes "," ++ t)) (ended_append xs ys)
    ∙ sym (append_assoc x (codes "," ++ ended xs) (ended ys))

-- before others items end with commas
separated_append : (xs ys : List (List ℕ)) (y : List ℕ)
    → separated (xs ++ y ∷ ys) ≡ ended xs ++ separated (y ∷ ys)
separated_append [] ys y = refl
separated_append (x ∷ []) ys y = sym (append_assoc x (codes ",") (separated (y ∷ ys)))
separated_append (x ∷ z ∷ xs) ys y =
    ap (λ (t : List ℕ). x ++ (codes "," ++ t)) (separated_append (z ∷ xs) ys y)
    ∙ sym (append_assoc x (codes "," ++ ended (z ∷ xs)) (separated (y ∷ ys)))

-- one item more, where commas end items
pub ended_more : (old mid new : List ℕ) (xs ys : List (List ℕ)) → mid ≡ old ++ ended xs → new ≡ mid ++ ended ys
    → new ≡ old ++ ended (xs ++ ys)
ended_more old mid new xs ys before here =
    here ∙ ap (λ (t : List ℕ). t ++ ended ys) before ∙ append_assoc old (ended xs) (ended ys)
    ∙ ap (λ (t : List ℕ). old ++ t) (sym (ended_append xs ys))

-- one register more
pub changed_more : (old mid new : List ℕ) (mode : Mode) (before after : List ℕ) (first k : ℕ)
    → mid ≡ old ++ ended (changed mode before after first k)
    → new ≡ mid ++ ended (if_changed mode before after (first + k))
    → new ≡ old ++ ended (changed mode before after first (k + 1))
changed_more old mid new mode before after first k so_far here =
    let next : suc k ≡ k + 1 = omega arith in
    subst (λ (n : ℕ). new ≡ old ++ ended (changed mode before after first n)) next
    (ended_more old mid new (changed mode before after first k) (if_changed mode before after (first + k)) so_far here)

-- four lists of members with commas, and a last member without
pub object_of_five : (o o1 o2 o3 o4 o5 new : List ℕ) (a b c d : List (List ℕ)) (last : List ℕ)
    → o1 ≡ o ++ codes "{" → o2 ≡ o1 ++ ended a → o3 ≡ o2 ++ ended b → o4 ≡ o3 ++ ended c → o5 ≡ o4 ++ ended d
    → new ≡ o5 ++ (last ++ codes "}") → new ≡ o ++ object (a ++ (b ++ (c ++ (d ++ last ∷ []))))
object_of_five o o1 o2 o3 o4 o5 new a b c d last h1 h2 h3 h4 h5 h6 =
    let grouped : a ++ (b ++ (c ++ (d ++ last ∷ []))) ≡ (a ++ (b ++ (c ++ d))) ++ last ∷ [] = simp append_assoc in
    let commas : ended (a ++ (b ++ (c ++ d))) ≡ ended a ++ (ended b ++ (ended c ++ ended d)) =
    ended_append a (b ++ (c ++ d))
    ∙ ap (λ (t : List ℕ). ended a ++ t)
    (ended_append b (c ++ d) ∙ ap (λ (t : List ℕ). ended b ++ t) (ended_append c d)) in
    let text : separated (a ++ (b ++ (c ++ (d ++ last ∷ [])))) ≡ (ended a ++ (ended b ++ (ended c ++ ended d))) ++ last =
    ap separated grouped ∙ separated_append (a ++ (b ++ (c ++ d))) [] last
    ∙ ap (λ (t : List ℕ). t ++ (last ++ [])) commas
    ∙ ap (λ (t : List ℕ). (ended a ++ (ended b ++ (ended c ++ ended d))) ++ t) (append-nil last) in
    let whole : new ≡ o ++ (codes "{" ++ (((ended a ++ (ended b ++ (ended c ++ ended d))) ++ last) ++ codes "}")) =
    rw (h6, h5, h4, h3, h2, h1) (simp append_assoc) in
    whole ∙ ap (λ (t : List ℕ). o ++ (codes "{" ++ (t ++ codes "}"))) (sym text)

-- three lists of members with commas, members without one at their end, and the line's end
pub line_of_four : (o o1 o2 o3 o4 o5 new : List ℕ) (a b c ds : List (List ℕ)) (d : List ℕ)
    → o1 ≡ o ++ codes "{" → o2 ≡ o1 ++ ended a → o3 ≡ o2 ++ ended b → o4 ≡ o3 ++ ended c
    → o5 ≡ o4 ++ separated (d ∷ ds) → new ≡ o5 ++ codes "}\n"
    → new ≡ o ++ (object (a ++ (b ++ (c ++ d ∷ ds))) ++ codes "\n")
line_of_four o o1 o2 o3 o4 o5 new a b c ds d h1 h2 h3 h4 h5 h6 =
    let grouped : a ++ (b ++ (c ++ d ∷ ds)) ≡ (a ++ (b ++ c)) ++ d ∷ ds = simp append_assoc in
    let commas : ended (a ++ (b ++ c)) ≡ ended a ++ (ended b ++ ended c) =
    ended_append a (b ++ c) ∙ ap (λ (t : List ℕ). ended a ++ t) (ended_append b c) in
    let text : separated (a ++ (b ++ (c ++ d ∷ ds))) ≡ (ended a ++ (ended b ++ ended c)) ++ separated (d ∷ ds) =
    ap separated grouped ∙ separated_append (a ++ (b ++ c)) ds d
    ∙ ap (λ (t : List ℕ). t ++ separated (d ∷ ds)) commas in
    let last : List ℕ = separated (d ∷ ds) in
    let whole : new ≡ o ++ ((codes "{" ++ (((ended a ++ (ended b ++ ended c)) ++ last) ++ codes "}")) ++ codes "\n") =
    rw (h6, h5, h4, h3, h2, h1) (simp append_assoc) in
    whole ∙ ap (λ (t : List ℕ). o ++ ((codes "{" ++ (t ++ codes "}")) ++ codes "\n")) (sym text)

-- one item more, where commas stand between items
continued_append : (xs ys : List (List ℕ)) → continued (xs ++ ys) ≡ continued xs ++ continued ys
continued_append [] ys = refl
continued_append (x ∷ xs) ys =
    ap (λ (t : List ℕ). codes "," ++ (x ++ t)) (continued_append xs ys)
    ∙ ap (λ (t : List ℕ). codes "," ++ t) (sym (append_assoc x (continued xs) (continued ys)))

separated_more : (x : List ℕ) (xs : List (List ℕ)) (y : List ℕ)
    → separated ((x ∷ xs) ++ y ∷ []) ≡ separated (x ∷ xs) ++ (codes "," ++ y)
separated_more x xs y =
    ap (λ (t : List ℕ). x ++ t)
    (continued_append xs (y ∷ []) ∙ ap (λ (t : List ℕ). continued xs ++ (codes "," ++ t)) (append-nil y))
    ∙ sym (append_assoc x (continued xs) (codes "," ++ y))

after_one : (xs : List (List ℕ)) (y z : List ℕ)
    → separated ((xs ++ y ∷ []) ++ z ∷ []) ≡ separated (xs ++ y ∷ []) ++ (codes "," ++ z)
after_one [] y z = separated_more y [] z
after_one (x ∷ xs) y z = separated_more x (xs ++ y ∷ []) z

-- one word of a transfer more
word_more : (f : Transfer → List ℕ) (store : Bool) (address k : ℕ)
    → separated (map f (words_from store address (suc k)))
    ≡ separated (map f (words_from store address k)) ++ (comma k ++ f (store, word_address address k))
word_more f store address zero = append-nil (f (store, word_address address 0))
word_more f store address (suc k) =
    let w : Transfer = (store, word_address address k) in
    let z : Transfer = (store, word_address address (suc k)) in
    let one : map f (words_from store address (suc k)) ≡ map f (words_from store address k) ++ f w ∷ [] =
    map-append f (words_from store address k) (w ∷ []) in
    ap separated (map-append f (words_from store address (suc k)) (z ∷ []))
    ∙ ap (λ (t : List (List ℕ)). separated (t ++ f z ∷ [])) one
    ∙ after_one (map f (words_from store address k)) (f w) (f z)
    ∙ ap (λ (t : List (List ℕ)). separated t ++ (codes "," ++ f z)) (sym one)

pub moved_more : (f : Transfer → List ℕ) (old mid comma_put new : List ℕ) (store : Bool) (address k : ℕ)
    → mid ≡ old ++ separated (map f (words_from store address k)) → comma_put ≡ mid ++ comma k
    → new ≡ comma_put ++ f (store, word_address address k)
    → new ≡ old ++ separated (map f (words_from store address (k + 1)))
moved_more f old mid comma_put new store address k so_far put here =
    let next : suc k ≡ k + 1 = omega arith in
    let item = f (store, word_address address k) in
    let whole : new ≡ old ++ (separated (map f (words_from store address k)) ++ (comma k ++ item)) =
    rw (here, put, so_far) (simp append_assoc) in
    subst (λ (n : ℕ). new ≡ old ++ separated (map f (words_from store address n))) next
    (whole ∙ ap (λ (t : List ℕ). old ++ t) (sym (word_more f store address k)))

-- members with commas, and one whose value comes after its name
pub named_value : (old o1 o2 new : List ℕ) (ms : List (List ℕ)) (name value : List ℕ) → o1 ≡ old ++ (ended ms ++ name)
    → o2 ≡ o1 ++ value → new ≡ o2 ++ codes "," → new ≡ old ++ ended (ms ++ (name ++ value) ∷ [])
named_value old o1 o2 new ms name value h1 h2 h3 =
    let whole : new ≡ old ++ (ended ms ++ ((name ++ value) ++ codes ",")) = rw (h3, h2, h1) (simp append_assoc) in
    whole ∙ ap (λ (t : List ℕ). old ++ t) (sym (ended_append ms ((name ++ value) ∷ [])))

pub three_put : (old o1 o2 new a b c : List ℕ) → o1 ≡ old ++ a → o2 ≡ o1 ++ b → new ≡ o2 ++ c → new ≡ old ++ (a ++ (b ++ c))
three_put old o1 o2 new a b c h1 h2 h3 = rw (h3, h2, h1) (simp append_assoc)

pub value_and_rest : (old o1 o2 new a b c : List ℕ) → o1 ≡ old ++ a → o2 ≡ o1 ++ b → new ≡ o2 ++ c → new ≡ old ++ ((a ++ b) ++ c)
value_and_rest old o1 o2 new a b c h1 h2 h3 = rw (h3, h2, h1) (simp append_assoc)
