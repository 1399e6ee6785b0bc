-- Addresses are read as they are spelled.
use Rattle.std.proofs.Common.{◌≡◌, ℕ, Bool, true, false, cond, not, List, [], ◌∷◌, ◌++◌, Some, None, refl, sym, ap, subst, ◌∙◌, inl, inr, append_assoc}
use Rattle.std.specs.Prelude.{option_map, option_and_then}
use Rattle.arm2_decode.specs.declared.names.Register.{Register}
use Rattle.asm_text.proofs.WordLaws.{map_is}
use Rattle.asm_text.specs.Pieces.{Piece, Run, Comma, Sign}
use Rattle.asm_text.specs.Numbers.{first_number}
use Rattle.asm_text.specs.Registers.{first_register}
use Rattle.asm_text.specs.Operands.{Offset, address, address_of, after_of, bang_of, after_base, before_of, by_amount, closed_of, number_offset, first_offset, unoffset_of, register_offset, first_shifting, signed_offset, all_read}
use Rattle.asm_text.specs.SpelledOperands.{IsRegister, SpellsAddress, SpellsAfter, SpellsBase, SpellsBefore, SpellsNumber, SpellsOffset, SpellsShifting, mark_if}
use Rattle.asm_text.specs.declared.token.Mark.TheVariants.{Hash, Minus, Bang, CloseBracket}
use Rattle.asm_text.specs.declared.syntax.Amount.{Amount}
use Rattle.asm_text.specs.declared.syntax.Shifting.{Shifting}
use Rattle.asm_text.specs.declared.syntax.Shifting.TheVariants as shifting
use Rattle.asm_text.specs.declared.syntax.Distance.{Distance}
use Rattle.asm_text.specs.declared.syntax.Distance.TheVariants as distance
use Rattle.asm_text.specs.declared.syntax.Address.{Address}
use Rattle.std.proofs.lemmas.List.{append-nil}
use Rattle.std.proofs.lemmas.Option.{none-some, same_Some}
use Rattle.asm_text.proofs.SpelledNames.{and_then_is, front_number, front_register, number_front, register_again, register_front, whole_is}
use Rattle.asm_text.proofs.SpelledShifts.{ends_shift, front_shifting, shifting_front}

-- ## Offsets

abbrev FrontOffset : List Piece → Offset × List Piece → Type 0
FrontOffset ps f = (a : List Piece) × (ps ≡ a ++ f.1) × SpellsOffset f.0.0 f.0.1 a

-- a number, with its sign in front
signed_is : (up : Bool) (ps : List Piece) (f : Offset × List Piece) → signed_offset up ps ≡ Some f → FrontOffset (Sign Hash ∷ (mark_if (not up) Minus ++ ps)) f
signed_is up ps f e =
    let k = map_is (λ g. ((up, distance.Number g.0), g.1)) (first_number ps) f e in
    let n = number_front ps k.0 k.1 in
    let signed = mark_if (not up) Minus in
    subst (FrontOffset (Sign Hash ∷ (signed ++ ps))) k.2
    (Sign Hash ∷ (signed ++ n.0), ap (λ (qs : List Piece). Sign Hash ∷ qs) (ap (λ (qs : List Piece). signed ++ qs) n.1 ∙ sym (append_assoc signed n.0 k.0.1)), (n.0, refl, n.2))

number_offset_is : (ps : List Piece) (f : Offset × List Piece) → number_offset ps ≡ Some f → FrontOffset (Sign Hash ∷ ps) f
number_offset_is (Sign Minus ∷ ps) f e = signed_is false ps f e
number_offset_is ps f e = signed_is true ps f e

amount_is : (up : Bool) (m : Register) (s : Shifting) (qs : List Piece) (f : Offset × List Piece) → by_amount up m (s, qs) ≡ Some f → (a : Amount) × (s ≡ shifting.Amount a) × (((up, distance.Register m a), qs) ≡ f)
amount_is up m (shifting.Amount a) qs f e = (a, refl, same_Some ((up, distance.Register m a), qs) f e)
amount_is up m (shifting.Register s r) qs f e = absurd (none-some f e)

-- a register, with its sign in front
register_offset_is : (up : Bool) (ps : List Piece) (f : Offset × List Piece) → register_offset up ps ≡ Some f → FrontOffset (mark_if (not up) Minus ++ ps) f
register_offset_is up ps f e =
    let r = and_then_is (λ g. option_and_then (by_amount up g.0) (first_shifting g.1)) (first_register ps) f e in
    let s = and_then_is (by_amount up r.0.0) (first_shifting r.0.1) f r.2 in
    let a = amount_is up r.0.0 s.0.0 s.0.1 f s.2 in
    let t = register_front ps r.0 r.1 in
    let g = shifting_front r.0.1 s.0 s.1 in
    let signed = mark_if (not up) Minus in
    let whole-is : Run t.0 ∷ r.0.1 ≡ (Run t.0 ∷ g.0) ++ s.0.1 = ap (λ (qs : List Piece). Run t.0 ∷ qs) g.1 in
    let all : signed ++ ps ≡ (signed ++ (Run t.0 ∷ g.0)) ++ s.0.1 = ap (λ (qs : List Piece). signed ++ qs) (t.1 ∙ whole-is) ∙ sym (append_assoc signed (Run t.0 ∷ g.0) s.0.1) in
    subst (FrontOffset (signed ++ ps)) a.2 (signed ++ (Run t.0 ∷ g.0), all, (t.0, g.0, refl, t.2, subst (λ x. SpellsShifting x g.0) a.1 g.2))

offset_front : (ps : List Piece) (f : Offset × List Piece) → first_offset ps ≡ Some f → FrontOffset ps f
offset_front (Sign Hash ∷ ps) f e = number_offset_is ps f e
offset_front (Sign Minus ∷ ps) f e = register_offset_is false ps f e
offset_front ps f e = register_offset_is true ps f e

no_sign : (n : ℕ) (a rest : List Piece) → SpellsNumber n a → number_offset (a ++ rest) ≡ signed_offset true (a ++ rest)
no_sign n a rest h = elim h [ inl k ↦ rw k.1 refl | inr k ↦ rw k.1 refl ]

signed_again : (up : Bool) (n : ℕ) (a rest : List Piece) → SpellsNumber n a → signed_offset up (a ++ rest) ≡ Some ((up, distance.Number n), rest)
signed_again up n a rest h = rw (front_number n a rest h) refl

front_offset : (up : Bool) (d : Distance) (a rest : List Piece) → SpellsOffset up d a → ends_shift rest ≡ true → first_offset (a ++ rest) ≡ Some ((up, d), rest)
front_offset true (distance.Number n) a rest h ends = rw h.1 (no_sign n h.0 rest h.2 ∙ signed_again true n h.0 rest h.2)
front_offset false (distance.Number n) a rest h ends = rw h.1 (signed_again false n h.0 rest h.2)
front_offset true (distance.Register m b) a rest h ends = rw (h.2, register_again h.0 m h.3, front_shifting (shifting.Amount b) h.1 rest h.4 ends) refl
front_offset false (distance.Register m b) a rest h ends = rw (h.2, register_again h.0 m h.3, front_shifting (shifting.Amount b) h.1 rest h.4 ends) refl

offset_whole : (ps : List Piece) (o : Offset) → all_read (first_offset ps) ≡ Some o → SpellsOffset o.0 o.1 ps
offset_whole ps o e =
    let k = offset_front ps (o, []) (whole_is (first_offset ps) o e) in
    subst (SpellsOffset o.0 o.1) (sym (append-nil k.0) ∙ sym k.1) k.2

whole_offset : (up : Bool) (d : Distance) (ps : List Piece) → SpellsOffset up d ps → all_read (first_offset ps) ≡ Some (up, d)
whole_offset up d ps h = ap (λ (qs : List Piece). all_read (first_offset qs)) (sym (append-nil ps)) ∙ ap all_read (front_offset up d ps [] h refl)

-- ## The end

bang_is : (ps : List Piece) (w : Bool) → bang_of ps ≡ Some w → ps ≡ mark_if w Bang
bang_is [] w e = ap (λ b. mark_if b Bang) (same_Some false w e)
bang_is (Sign Bang ∷ []) w e = ap (λ b. mark_if b Bang) (same_Some true w e)
bang_is (Sign Bang ∷ p ∷ ps) w e = absurd (none-some w e)
bang_is _ w e = absurd (none-some w e)

bang_again : (w : Bool) → bang_of (mark_if w Bang) ≡ Some w
bang_again true = refl
bang_again false = refl

closed_is : (ps : List Piece) (w : Bool) → closed_of ps ≡ Some w → ps ≡ Sign CloseBracket ∷ mark_if w Bang
closed_is (Sign CloseBracket ∷ ps) w e = ap (λ (qs : List Piece). Sign CloseBracket ∷ qs) (bang_is ps w e)
closed_is _ w e = absurd (none-some w e)

-- ## Addresses

before_is : (t : List ℕ) (n : Register) (ps : List Piece) (x : Address) → IsRegister t n → before_of n ps ≡ Some x → SpellsBefore x (Run t ∷ Comma ∷ ps)
before_is t n ps x r e =
    let f = and_then_is (λ f. option_map (λ w. address n true w f.0) (closed_of f.1)) (first_offset ps) x e in
    let w = map_is (λ w. address n true w f.0.0) (closed_of f.0.1) x f.2 in
    let o = offset_front ps f.0 f.1 in
    let c = closed_is f.0.1 w.0 w.1 in
    subst (λ y. SpellsBefore y (Run t ∷ Comma ∷ ps)) w.2
    (record { before = refl; n = t; offset = o.0; spelled = ap (λ (qs : List Piece). Run t ∷ Comma ∷ qs) (o.1 ∙ ap (λ (qs : List Piece). o.0 ++ qs) c); n-is = r; offset-is = o.2 })

base_is : (t : List ℕ) (n : Register) (ps : List Piece) (x : Address) → IsRegister t n → unoffset_of n ps ≡ Some x → SpellsBase x (Run t ∷ Sign CloseBracket ∷ ps)
base_is t n ps x r e =
    let w = map_is (λ w. address n true w (true, distance.Number 0)) (bang_of ps) x e in
    record { rn = n; write_back = w.0; means = sym w.2; n = t; spelled = ap (λ (qs : List Piece). Run t ∷ Sign CloseBracket ∷ qs) (bang_is ps w.0 w.1); n-is = r }

after_is : (user : Bool) (t : List ℕ) (n : Register) (ps : List Piece) (x : Address) → IsRegister t n → option_map (address n false user) (all_read (first_offset ps)) ≡ Some x → SpellsAfter user x (Run t ∷ Sign CloseBracket ∷ Comma ∷ ps)
after_is user t n ps x r e =
    let o = map_is (address n false user) (all_read (first_offset ps)) x e in
    subst (λ y. SpellsAfter user y (Run t ∷ Sign CloseBracket ∷ Comma ∷ ps)) o.2
    (record { after = refl; rights = refl; n = t; offset = ps; spelled = refl; n-is = r; offset-is = offset_whole ps o.0 o.1 })

plain_is : (user : Bool) (t : List ℕ) (n : Register) (ps : List Piece) (x : Address) → IsRegister t n → cond user None (unoffset_of n ps) ≡ Some x → SpellsAddress user x (Run t ∷ Sign CloseBracket ∷ ps)
plain_is true t n ps x r e = absurd (none-some x e)
plain_is false t n ps x r e = inl (refl, base_is t n ps x r e)

closed_after : (user : Bool) (t : List ℕ) (n : Register) (ps : List Piece) (x : Address) → IsRegister t n → after_of user n ps ≡ Some x → SpellsAddress user x (Run t ∷ Sign CloseBracket ∷ ps)
closed_after user t n (Comma ∷ ps) x r e = inr (inr (after_is user t n ps x r e))
closed_after user t n ps x r e = plain_is user t n ps x r e

comma_after : (user : Bool) (t : List ℕ) (n : Register) (ps : List Piece) (x : Address) → IsRegister t n → cond user None (before_of n ps) ≡ Some x → SpellsAddress user x (Run t ∷ Comma ∷ ps)
comma_after true t n ps x r e = absurd (none-some x e)
comma_after false t n ps x r e = inr (inl (refl, before_is t n ps x r e))

after_base_is : (user : Bool) (t : List ℕ) (n : Register) (ps : List Piece) (x : Address) → IsRegister t n → after_base user n ps ≡ Some x → SpellsAddress user x (Run t ∷ ps)
after_base_is user t n (Sign CloseBracket ∷ ps) x r e = closed_after user t n ps x r e
after_base_is user t n (Comma ∷ ps) x r e = comma_after user t n ps x r e
after_base_is user t n _ x r e = absurd (none-some x e)

pub address_is : (user : Bool) (ps : List Piece) (x : Address) → address_of user ps ≡ Some x → SpellsAddress user x ps
address_is user ps x e =
    let f = and_then_is (λ f. after_base user f.0 f.1) (first_register ps) x e in
    let t = register_front ps f.0 f.1 in
    subst (SpellsAddress user x) (sym t.1) (after_base_is user t.0 f.0.0 f.0.1 x t.2 f.2)

base_again : (w : Bool) (n : Register) → after_of false n (mark_if w Bang) ≡ Some (record { rn = n; before = true; up = true; write_back = w; distance = distance.Number 0 })
base_again true n = refl
base_again false n = refl

before_again : (x : Address) (ps : List Piece) → SpellsBefore x ps → address_of false ps ≡ Some x
before_again x ps b =
    let close : List Piece = Sign CloseBracket ∷ mark_if x.write_back Bang in
    let read : address_of false ps ≡ Some (address x.rn true x.write_back (x.up, x.distance)) =
    rw (b.spelled, front_register b.n x.rn (Comma ∷ (b.offset ++ close)) b.n-is, front_offset x.up x.distance b.offset close b.offset-is refl, bang_again x.write_back) refl in
    read ∙ ap (λ (y : Bool). Some (address x.rn y x.write_back (x.up, x.distance))) (sym b.before)

after_again : (user : Bool) (x : Address) (ps : List Piece) → SpellsAfter user x ps → address_of user ps ≡ Some x
after_again user x ps b =
    let read : address_of user ps ≡ Some (address x.rn false user (x.up, x.distance)) =
    rw (b.spelled, front_register b.n x.rn (Sign CloseBracket ∷ Comma ∷ b.offset) b.n-is, whole_offset x.up x.distance b.offset b.offset-is) refl in
    read ∙ ap (λ (y : Bool). Some (address x.rn y user (x.up, x.distance))) (sym b.after) ∙ ap (λ (y : Bool). Some (address x.rn x.before y (x.up, x.distance))) (sym b.rights)

pub address_again : (user : Bool) (x : Address) (ps : List Piece) → SpellsAddress user x ps → address_of user ps ≡ Some x
address_again user x ps h =
    elim h [
      | inl k ↦ let b = k.1 in
          rw (k.0, b.spelled, b.means, front_register b.n b.rn (Sign CloseBracket ∷ mark_if b.write_back Bang) b.n-is) (base_again b.write_back b.rn)
      | inr g ↦ elim g [
        | inl k ↦ rw k.0 (before_again x ps k.1)
        | inr b ↦ after_again user x ps b
      ]
    ]
