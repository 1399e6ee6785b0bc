-- What is read is spelled so, and what is spelled so is read.
use Rattle.std.specs.Prelude.{IfSome, IfOk, ◌==◌, ◌&&◌, ◌||◌, map, option_map}
use Rattle.std.specs.Char.{to_ascii_lowercase, to_ascii_uppercase}
use Rattle.std.specs.List.{AllByRecursion, list_all}
use Rattle.std.proofs.Common.{◌≡◌, ◌<◌, length-take, ℕ, Bool, true, false, cond, List, [], ◌∷◌, ◌++◌, length, take, drop, Option, Some, None, Result, Ok, Err, codes, refl, sym, ap, subst, ◌∙◌, inl, inr, ◌⊎◌, arith}
use Rattle.std.specs.Str.{bytes_eq}
use Rattle.std.proofs.lemmas.List.{take-append-drop}
use Rattle.std.proofs.lemmas.Slice.Eq.{bytes_eq-Decides}
use Rattle.std.proofs.lemmas.Option.{none-some, same_Some}
use Rattle.arm2_decode.specs.declared.names.Cond.{Cond}
use Rattle.arm2_decode.specs.declared.names.Cond.TheVariants.{Eq, Al}
use Rattle.arm2_decode.specs.declared.names.Opcode.TheVariants.{And}
use Rattle.asm_text.specs.declared.names.Head.{Head}
use Rattle.asm_text.specs.declared.names.Head.TheVariants.{Data, Multiply, Single, Block}
use Rattle.asm_text.specs.declared.names.Suffix.{Suffix}
use Rattle.asm_text.specs.declared.names.Suffix.TheVariants.{Bare}
use Rattle.asm_text.specs.declared.word.Word.{Word}
use Rattle.asm_text.specs.declared.word.Word.TheVariants.{Plain, Branch, Org, Dcd}
use Rattle.asm_text.specs.Names.{cond_name, head_name, suffix_name, conds, heads, suffixes, named, cond_of, head_of, suffix_of, may_have}
use Rattle.asm_text.specs.Words.{IsCond, branch_name, IsWord, IsSpelling, is_one_case, upper, spelled_word_of, whole_cond, branch_link, branch_rest, branch_of, with_suffix, head_cond, head_rest, plain_of, plain_unless, word_of}

pub chosen : {A : Type 0} (b : Bool) (x y z : A) → cond b x y ≡ z → ((b ≡ true) × (x ≡ z)) ⊎ ((b ≡ false) × (y ≡ z))
chosen true x y z e = inl (refl, e)
chosen false x y z e = inr (refl, e)

pub same_Ok : {A E : Type 0} (x y : A) → ◌≡◌ {A = Result A E} (Ok x) (Ok y) → x ≡ y
same_Ok x y e = cc

pub equal_bytes : (xs ys : List ℕ) → bytes_eq xs ys ≡ true → xs ≡ ys
equal_bytes xs ys e = (bytes_eq-Decides xs ys).0 e

pub same_bytes : (text : List ℕ) → bytes_eq text text ≡ true
same_bytes text = (bytes_eq-Decides text text).1 refl

pub false_true : {A : Type 0} → false ≡ true → A
false_true e = absurd cc

-- what the text names has that name
pub named_is : {A : Type 0} (name : A → List ℕ) (all : List A) (text : List ℕ) (a : A) → named name all text ≡ Some a → text ≡ name a
named_is name [] text a e = absurd cc
named_is name (x ∷ xs) text a e =
    elim (chosen (bytes_eq text (name x)) (Some x) (named name xs text) (Some a) e) [
      | inl w ↦ equal_bytes text (name x) w.0 ∙ ap name (same_Some x a w.1)
      | inr w ↦ named_is name xs text a w.1
    ]

-- ## Each name is its own

cond_again : (c : Cond) (rest : List ℕ) → cond_of (take 2 (cond_name c ++ rest)) ≡ Some c
unfolding cond_of
cond_again Eq rest = refl
cond_again _ rest = refl

after_cond : (c : Cond) (rest : List ℕ) → drop 2 (cond_name c ++ rest) ≡ rest
after_cond Eq rest = refl
after_cond _ rest = refl

head_again : (h : Head) (rest : List ℕ) → word_of (head_name h ++ rest) ≡ head_cond h (cond_of (take 2 rest)) rest
unfolding word_of head_of cond_of
head_again (Data And) rest = refl
head_again (Multiply true) rest = refl
head_again (Single true) rest = refl
head_again (Block true) rest = refl
head_again _ rest = refl

branch_again : (link : Bool) (c : Cond) → word_of (branch_name link ++ cond_name c) ≡ Some (Branch link c)
unfolding word_of cond_of
branch_again true Eq = refl
branch_again false Eq = refl
branch_again _ _ = refl

always_branches : (link : Bool) → word_of (branch_name link ++ []) ≡ Some (Branch link Al)
unfolding word_of cond_of
always_branches true = refl
always_branches false = refl

no_cond : (s : Suffix) → cond_of (take 2 (suffix_name s)) ≡ None
unfolding cond_of
no_cond Bare = refl
no_cond _ = refl

suffix_again : (s : Suffix) → suffix_of (suffix_name s) ≡ Some s
unfolding suffix_of
suffix_again Bare = refl
suffix_again _ = refl

suffixed_again : (h : Head) (c : Cond) (s : Suffix) → may_have h s ≡ true → with_suffix h c (suffix_of (suffix_name s)) ≡ Some (Plain h c s)
suffixed_again h c s m = ap (with_suffix h c) (suffix_again s) ∙ rw m refl

-- what is spelled so is read
pub word_again : (text : List ℕ) (w : Word) → IsWord text w → word_of text ≡ Some w
word_again text (Plain h c s) m =
    let whole = ap word_of m.3 ∙ head_again h (m.0 ++ suffix_name s) in
    elim m.1 [
      | inl is ↦ whole ∙ rw (is, cond_again c (suffix_name s), after_cond c (suffix_name s)) (suffixed_again h c s m.2)
      | inr is ↦ whole ∙ rw (is.0, no_cond s, is.1) (suffixed_again h Al s m.2)
    ]
word_again text (Branch link c) h =
    elim h.1 [
      | inl is ↦ ap word_of (h.2 ∙ ap (λ (t : List ℕ). branch_name link ++ t) is) ∙ branch_again link c
      | inr is ↦ ap word_of (h.2 ∙ ap (λ (t : List ℕ). branch_name link ++ t) is.0) ∙ always_branches link ∙ ap (λ (d : Cond). Some (Branch link d)) (sym is.1)
    ]
word_again text Org h = ap word_of h ∙ (let one : word_of (codes "ORG") ≡ Some Org = unfold word_of in refl in one)
word_again text Dcd h = ap word_of h ∙ (let one : word_of (codes "DCD") ≡ Some Dcd = unfold word_of in refl in one)

-- ## What is read is spelled so

whole_is : (text : List ℕ) (c : Cond) → whole_cond text ≡ Some c → IsCond text c
unfolding cond_of
whole_is [] c e = inr (refl, sym (same_Some Al c e))
whole_is (b ∷ bs) c e = inl (named_is cond_name conds (b ∷ bs) c e)

-- a fact about the elements of two lists, and of both joined
pub all_join : {A : Type 0} (P : A → Type 0) (xs ys : List A) → AllByRecursion P xs → AllByRecursion P ys
    → AllByRecursion P (xs ++ ys)
all_join P [] ys h k = k
all_join P (x ∷ xs) ys h k = (h.0, all_join P xs ys h.1 k)

pub map_is : {A B : Type 0} (f : A → B) (o : Option A) (b : B) → option_map f o ≡ Some b → (a : A) × (o ≡ Some a) × (f a ≡ b)
map_is f None b e = absurd (none-some b e)
map_is f (Some a) b e = (a, refl, same_Some (f a) b e)

branch_link_is : (text : List ℕ) (w : Word) → branch_link text ≡ Some w → (rest : List ℕ) × (c : Cond) × (text ≡ codes "L" ++ rest) × IsCond rest c × (w ≡ Branch true c)
branch_link_is [] w e = absurd cc
branch_link_is (b ∷ rest) w e =
    elim (chosen (bytes_eq (b ∷ []) (codes "L")) (option_map (Branch true) (whole_cond rest)) None (Some w) e) [
      | inl h ↦
          let m = map_is (Branch true) (whole_cond rest) w h.1 in
          (rest, m.0, ap (λ (t : List ℕ). t ++ rest) (equal_bytes (b ∷ []) (codes "L") h.0), whole_is rest m.0 m.1, sym m.2)
      | inr h ↦ absurd (none-some w h.1)
    ]

branch_rest_is : (o : Option Cond) (rest : List ℕ) (w : Word) → whole_cond rest ≡ o → branch_rest o rest ≡ Some w → IsWord (codes "B" ++ rest) w
branch_rest_is (Some c) rest w is e = subst (IsWord (codes "B" ++ rest)) (same_Some (Branch false c) w e) (rest, whole_is rest c is, refl)
branch_rest_is None rest w is e =
    let l = branch_link_is rest w e in
    subst (IsWord (codes "B" ++ rest)) (sym l.4) (l.0, l.3, ap (λ (t : List ℕ). codes "B" ++ t) l.2)

branch_is : (text : List ℕ) (w : Word) → branch_of text ≡ Some w → IsWord text w
branch_is [] w e = absurd cc
branch_is (b ∷ rest) w e =
    elim (chosen (bytes_eq (b ∷ []) (codes "B")) (branch_rest (whole_cond rest) rest) None (Some w) e) [
      | inl h ↦ subst (λ (t : List ℕ). IsWord (t ++ rest) w) (sym (equal_bytes (b ∷ []) (codes "B") h.0)) (branch_rest_is (whole_cond rest) rest w refl h.1)
      | inr h ↦ absurd (none-some w h.1)
    ]

suffixed_is : (h : Head) (c : Cond) (o : Option Suffix) (rest : List ℕ) (w : Word) → suffix_of rest ≡ o → with_suffix h c o ≡ Some w → (s : Suffix) × (may_have h s ≡ true) × (rest ≡ suffix_name s) × (w ≡ Plain h c s)
unfolding suffix_of
suffixed_is h c None rest w is e = absurd cc
suffixed_is h c (Some s) rest w is e =
    elim (chosen (may_have h s) (Some (Plain h c s)) None (Some w) e) [
      | inl m ↦ (s, m.0, named_is suffix_name suffixes rest s is, sym (same_Some (Plain h c s) w m.1))
      | inr m ↦ absurd (none-some w m.1)
    ]

head_cond_is : (h : Head) (o : Option Cond) (rest : List ℕ) (w : Word) → cond_of (take 2 rest) ≡ o → head_cond h o rest ≡ Some w → IsWord (head_name h ++ rest) w
unfolding cond_of
head_cond_is h (Some c) rest w is e =
    let m = suffixed_is h c (suffix_of (drop 2 rest)) (drop 2 rest) w refl e in
    let name = named_is cond_name conds (take 2 rest) c is in
    let parts : rest ≡ cond_name c ++ suffix_name m.0 = sym (take-append-drop 2 rest) ∙ ap (λ (t : List ℕ). t ++ drop 2 rest) name ∙ ap (λ (t : List ℕ). cond_name c ++ t) m.2 in
    subst (IsWord (head_name h ++ rest)) (sym m.3) (cond_name c, inl refl, m.1, ap (λ (t : List ℕ). head_name h ++ t) parts)
head_cond_is h None rest w is e =
    let m = suffixed_is h Al (suffix_of rest) rest w refl e in
    subst (IsWord (head_name h ++ rest)) (sym m.3) ([], inr (refl, refl), m.1, ap (λ (t : List ℕ). head_name h ++ t) m.2)

head_rest_is : (o : Option Head) (text : List ℕ) (w : Word) → head_of (take 3 text) ≡ o → head_rest o (drop 3 text) ≡ Some w → IsWord text w
unfolding head_of
head_rest_is None text w is e = absurd cc
head_rest_is (Some h) text w is e =
    let name = named_is head_name heads (take 3 text) h is in
    let parts : head_name h ++ drop 3 text ≡ text = rw (← name) (take-append-drop 3 text) in
    subst (λ (t : List ℕ). IsWord t w) parts (head_cond_is h (cond_of (take 2 (drop 3 text))) (drop 3 text) w refl e)

unless_is : (o : Option Word) (text : List ℕ) (w : Word) → branch_of text ≡ o → plain_unless o text ≡ Some w → IsWord text w
unless_is (Some v) text w is e = branch_is text w (is ∙ e)
unless_is None text w is e = head_rest_is (head_of (take 3 text)) text w refl e

pub word_is : (text : List ℕ) (w : Word) → word_of text ≡ Some w → IsWord text w
unfolding word_of
word_is text w e =
    elim (chosen (bytes_eq text (codes "ORG")) (Some Org) _ (Some w) e) [
      | inl h ↦ subst (IsWord text) (same_Some Org w h.1) (equal_bytes text (codes "ORG") h.0)
      | inr g ↦ elim (chosen (bytes_eq text (codes "DCD")) (Some Dcd) _ (Some w) g.1) [
        | inl h ↦ subst (IsWord text) (same_Some Dcd w h.1) (equal_bytes text (codes "DCD") h.0)
        | inr h ↦ unless_is (branch_of text) text w refl h.1
      ]
    ]

cond_len : (c : Cond) → length (cond_name c) ≡ 2
cond_len Eq = refl
cond_len _ = refl

short_named : (o : Option Cond) (text : List ℕ) → cond_of text ≡ o → length text < 2 → o ≡ None
unfolding cond_of
short_named None text is lt = refl
short_named (Some c) text is lt = absurd (omega (arith, ap length (named_is cond_name conds text c is), cond_len c))

-- a text of less than two letters names no condition
pub short_cond : (text : List ℕ) → length text < 2 → cond_of (take 2 text) ≡ None
short_cond text lt = short_named (cond_of (take 2 text)) (take 2 text) refl (omega (arith, length-take 2 text))

head_len : (h : Head) → length (head_name h) ≡ 3
head_len (Data And) = refl
head_len (Multiply true) = refl
head_len (Single true) = refl
head_len (Block true) = refl
head_len _ = refl

short_head : (o : Option Head) (text : List ℕ) → head_of text ≡ o → length text < 3 → o ≡ None
unfolding head_of
short_head None text is lt = refl
short_head (Some h) text is lt = absurd (omega (arith, ap length (named_is head_name heads text h is), head_len h))

-- a text of less than three letters begins no plain word
pub short_plain : (text : List ℕ) → length text < 3 → None ≡ plain_of text
short_plain text lt = ap (λ o. head_rest o (drop 3 text)) (sym (short_head (head_of (take 3 text)) (take 3 text) refl (omega (arith, length-take 3 text))))

-- ## In either case

pub spelled_is : (text : List ℕ) (w : Word) → spelled_word_of text ≡ Some w → IsSpelling text w
spelled_is text w e =
    elim (chosen (is_one_case text) (word_of (upper text)) None (Some w) e) [
      | inl h ↦ (h.0, word_is (upper text) w h.1)
      | inr h ↦ absurd (none-some w h.1)
    ]

pub spelled_again : (text : List ℕ) (w : Word) → IsSpelling text w → spelled_word_of text ≡ Some w
spelled_again text w h = rw h.0 (word_again (upper text) w h.1)

found_is : (text : List ℕ) (o : Option Word) → o ≡ spelled_word_of text → IfSome o (λ w. IsSpelling text w)
found_is text (Some w) is = spelled_is text w (sym is)
found_is text None is = tt

pub ok_found : {E : Type 0} (text : List ℕ) (r : Result (Option Word) E) → IfOk r (λ o. o ≡ spelled_word_of text) → IfOk r (λ o. IfSome o (λ w. IsSpelling text w))
ok_found text (Ok o) is = found_is text o is
ok_found text (Err e) is = tt

pub ok_only : {E : Type 0} (text : List ℕ) (r : Result (Option Word) E) → IfOk r (λ o. o ≡ spelled_word_of text) → IfOk r (λ o. (w : Word) → IsSpelling text w → o ≡ Some w)
ok_only text (Ok o) is = λ w h. is ∙ spelled_again text w h
ok_only text (Err e) is = tt

-- ## Case

-- a text is what a function makes of it exactly where that keeps each of its bytes
same_as_mapped : (f : ℕ → ℕ) (text : List ℕ) → list_all (λ b. b == f b) text ≡ bytes_eq text (map f text)
same_as_mapped f [] = refl
same_as_mapped f (b ∷ text) = ap (λ rest. (b == f b) && rest) (same_as_mapped f text)

-- a text in upper case spells what it says as it is
pub upper_spells : (text : List ℕ) → list_all (λ b. b == to_ascii_uppercase b) text ≡ true → word_of text ≡ spelled_word_of text
upper_spells text all =
    let equal : bytes_eq text (upper text) ≡ true = sym (same_as_mapped to_ascii_uppercase text) ∙ all in
    let one : is_one_case text ≡ true = ap (λ x. x || bytes_eq text (map to_ascii_lowercase text)) equal in
    ap word_of (equal_bytes text (upper text) equal) ∙ sym (ap (λ x. cond x (word_of (upper text)) None) one)

-- a text in lower case spells what it says in upper case
pub lower_spells : (text : List ℕ) (is : Bool) → list_all (λ b. b == to_ascii_lowercase b) text ≡ is → list_all (λ b. b == to_ascii_uppercase b) text ≡ false → spelled_word_of text ≡ cond is (word_of (upper text)) None
lower_spells text is all not_upper =
    let lower : bytes_eq text (map to_ascii_lowercase text) ≡ is = sym (same_as_mapped to_ascii_lowercase text) ∙ all in
    let upper_is : bytes_eq text (upper text) ≡ false = sym (same_as_mapped to_ascii_uppercase text) ∙ not_upper in
    let one : is_one_case text ≡ is = ap (λ x. x || bytes_eq text (map to_ascii_lowercase text)) upper_is ∙ lower in
    ap (λ x. cond x (word_of (upper text)) None) one
