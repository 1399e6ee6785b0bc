-- Shifts, operands of data processing and multiplies are read as they are spelled.
use Rattle.std.proofs.Common.{◌≡◌, ℕ, Bool, true, false, cond, List, [], ◌∷◌, ◌++◌, Some, None, refl, sym, ap, subst, ◌∙◌, inl, inr}
use Rattle.std.specs.Prelude.{option_map, option_and_then}
use Rattle.arm2_decode.specs.declared.names.Opcode.{Opcode}
use Rattle.arm2_decode.specs.declared.names.Register.{Register}
use Rattle.arm2_decode.specs.declared.names.Register.TheVariants.{R0}
use Rattle.arm2_decode.specs.declared.names.Shift.{Shift}
use Rattle.arm2_decode.specs.declared.names.Shift.TheVariants.{Lsl}
use Rattle.asm_text.specs.Pieces.{Piece, Run, Comma, Sign, Gap}
use Rattle.asm_text.specs.Lines.{starts_gap}
use Rattle.arm2_decode.specs.Names.{is_compare}
use Rattle.asm_text.specs.Numbers.{first_number}
use Rattle.asm_text.specs.Registers.{is_rrx, first_register_comma, first_register, register_of, shift_of}
use Rattle.asm_text.specs.Operands.{compare_of, compare_rd, data_with, data_of, factors_of, lacks_rn, is_s, move_of, operand_of, product_of, first_shift_by, first_shift, first_shift_words, first_shifting, sum_of, three_of, all_read}
use Rattle.asm_text.specs.SpelledOperands.{SpellsCompare, SpellsData, SpellsMultiply, SpellsMove, SpellsOperand, SpellsShift, SpellsShifting, SpellsThree}
use Rattle.asm_text.specs.declared.token.Mark.TheVariants.{Hash}
use Rattle.asm_text.specs.declared.names.Suffix.{Suffix}
use Rattle.asm_text.specs.declared.syntax.Amount.TheVariants as amount
use Rattle.asm_text.specs.declared.syntax.Shifting.{Shifting}
use Rattle.asm_text.specs.declared.syntax.Shifting.TheVariants as shifting
use Rattle.asm_text.specs.declared.syntax.Operand.{Operand}
use Rattle.asm_text.specs.declared.syntax.Operand.TheVariants as operand
use Rattle.asm_text.specs.declared.syntax.Data.{Data}
use Rattle.asm_text.specs.declared.syntax.Product.{Product}
use Rattle.std.proofs.lemmas.List.{append-nil}
use Rattle.std.proofs.lemmas.Option.{none-some, same_Some}
use Rattle.asm_text.proofs.WordLaws.{chosen, map_is}
use Rattle.asm_text.proofs.SpelledNames.{and_then_is, front_number, front_register, front_register_comma, number_front, number_whole, register_again, register_comma_front, register_front, register_is, rrx_again, rrx_is, shift_again, shift_is, whole_is, whole_number}

-- ## Shifts

-- what was read, and its pieces in front of the rest
abbrev pub FrontShift : List Piece → Shifting × List Piece → Type 0
FrontShift ps f = (a : List Piece) × (ps ≡ a ++ f.1) × SpellsShift f.0 a

shift_by_is : (w : List ℕ) (s : Shift) (ps : List Piece) (f : Shifting × List Piece) → shift_of w ≡ Some s → first_shift_by s ps ≡ Some f → FrontShift (Run w ∷ Gap ∷ ps) f
shift_by_is w s (Sign Hash ∷ ps) f is e =
    let k = map_is (λ g. (shifting.Amount (amount.By s g.0), g.1)) (first_number ps) f e in
    let n = number_front ps k.0 k.1 in
    subst (FrontShift (Run w ∷ Gap ∷ Sign Hash ∷ ps)) k.2
    (Run w ∷ Gap ∷ Sign Hash ∷ n.0, ap (λ (qs : List Piece). Run w ∷ Gap ∷ Sign Hash ∷ qs) n.1, (w, n.0, refl, shift_is w s is, n.2))
shift_by_is w s (Run r ∷ ps) f is e =
    let k = map_is (λ m. (shifting.Register s m, ps)) (register_of r) f e in
    subst (FrontShift (Run w ∷ Gap ∷ Run r ∷ ps)) k.2
    (Run w ∷ Gap ∷ Run r ∷ [], refl, (w, r, refl, shift_is w s is, register_is r k.0 k.1))
shift_by_is w s _ f is e = absurd (none-some f e)

rrx_words_is : (w : List ℕ) (ps : List Piece) (f : Shifting × List Piece) → cond (is_rrx w) (Some (shifting.Amount amount.Rrx, ps)) None ≡ Some f → FrontShift (Run w ∷ ps) f
rrx_words_is w ps f e =
    elim (chosen (is_rrx w) (Some (shifting.Amount amount.Rrx, ps)) None (Some f) e) [
      | inl h ↦ subst (FrontShift (Run w ∷ ps)) (same_Some (shifting.Amount amount.Rrx, ps) f h.1) (Run w ∷ [], refl, (w, refl, rrx_is w h.0))
      | inr h ↦ absurd (none-some f h.1)
    ]

shift_words_is : (w : List ℕ) (ps : List Piece) (f : Shifting × List Piece) → first_shift_words w ps ≡ Some f → FrontShift (Run w ∷ ps) f
shift_words_is w (Gap ∷ ps) f e =
    let k = and_then_is (λ s. first_shift_by s ps) (shift_of w) f e in
    shift_by_is w k.0 ps f k.1 k.2
shift_words_is w ps f e = rrx_words_is w ps f e

pub shift_front : (ps : List Piece) (f : Shifting × List Piece) → first_shift ps ≡ Some f → FrontShift ps f
shift_front (Run w ∷ ps) f e = shift_words_is w ps f e
shift_front _ f e = absurd (none-some f e)

rrx_first : (w : List ℕ) (rest : List Piece) → is_rrx w ≡ true → starts_gap rest ≡ false → first_shift_words w rest ≡ Some (shifting.Amount amount.Rrx, rest)
rrx_first w (Gap ∷ rest) h none = absurd cc
rrx_first w rest h none = rw h refl

pub front_shift : (s : Shifting) (a rest : List Piece) → SpellsShift s a → starts_gap rest ≡ false → first_shift (a ++ rest) ≡ Some (s, rest)
front_shift (shifting.Amount (amount.By s n)) a rest h none = rw (h.2, shift_again h.0 s h.3, front_number n h.1 rest h.4) refl
front_shift (shifting.Amount amount.Rrx) a rest h none = rw h.1 (rrx_first h.0 rest (rrx_again h.0 h.2) none)
front_shift (shifting.Register s r) a rest h none = rw (h.2, shift_again h.0 s h.3, register_again h.1 r h.4) refl

-- ## What follows a register

abbrev pub FrontShifting : List Piece → Shifting × List Piece → Type 0
FrontShifting ps f = (a : List Piece) × (ps ≡ a ++ f.1) × SpellsShifting f.0 a

no_shift : (ps : List Piece) (f : Shifting × List Piece) → Some (shifting.Amount (amount.By Lsl 0), ps) ≡ Some f → FrontShifting ps f
no_shift ps f e = subst (FrontShifting ps) (same_Some (shifting.Amount (amount.By Lsl 0), ps) f e) ([], refl, inr (refl, refl))

pub shifting_front : (ps : List Piece) (f : Shifting × List Piece) → first_shifting ps ≡ Some f → FrontShifting ps f
shifting_front (Comma ∷ ps) f e = let k = shift_front ps f e in (Comma ∷ k.0, ap (λ (qs : List Piece). Comma ∷ qs) k.1, inl (k.0, refl, k.2))
shifting_front ps f e = no_shift ps f e

-- neither a comma nor a gap
abbrev pub ends_shift : List Piece → Bool
ends_shift (Comma ∷ ps) = false
ends_shift (Gap ∷ ps) = false
ends_shift ps = true

ends_gap : (ps : List Piece) → ends_shift ps ≡ true → starts_gap ps ≡ false
ends_gap (Gap ∷ ps) e = absurd cc
ends_gap (Comma ∷ ps) e = absurd cc
ends_gap ps e = refl

plain_first : (rest : List Piece) → ends_shift rest ≡ true → first_shifting rest ≡ Some (shifting.Amount (amount.By Lsl 0), rest)
plain_first (Comma ∷ rest) e = absurd cc
plain_first rest e = refl

pub front_shifting : (s : Shifting) (a rest : List Piece) → SpellsShifting s a → ends_shift rest ≡ true → first_shifting (a ++ rest) ≡ Some (s, rest)
front_shifting s a rest h ends =
    elim h [
      | inl k ↦ rw k.1 (front_shift s k.0 rest k.2 (ends_gap rest ends))
      | inr k ↦ rw (k.0, k.1) (plain_first rest ends)
    ]

shifting_whole : (ps : List Piece) (s : Shifting) → all_read (first_shifting ps) ≡ Some s → SpellsShifting s ps
shifting_whole ps s e =
    let k = shifting_front ps (s, []) (whole_is (first_shifting ps) s e) in
    subst (SpellsShifting s) (sym (append-nil k.0) ∙ sym k.1) k.2

whole_shifting : (s : Shifting) (ps : List Piece) → SpellsShifting s ps → all_read (first_shifting ps) ≡ Some s
whole_shifting s ps h = ap (λ (qs : List Piece). all_read (first_shifting qs)) (sym (append-nil ps)) ∙ ap all_read (front_shifting s ps [] h refl)

-- ## Data processing

pub operand_is : (ps : List Piece) (o : Operand) → operand_of ps ≡ Some o → SpellsOperand o ps
operand_is (Sign Hash ∷ ps) o e =
    let k = map_is operand.Immediate (all_read (first_number ps)) o e in
    subst (λ x. SpellsOperand x (Sign Hash ∷ ps)) k.2 (ps, refl, number_whole ps k.0 k.1)
operand_is (Run r ∷ ps) o e =
    let k = and_then_is (λ m. option_map (operand.Shifted m) (all_read (first_shifting ps))) (register_of r) o e in
    let s = map_is (operand.Shifted k.0) (all_read (first_shifting ps)) o k.2 in
    subst (λ x. SpellsOperand x (Run r ∷ ps)) s.2 (r, ps, refl, register_is r k.0 k.1, shifting_whole ps s.0 s.1)
operand_is _ o e = absurd (none-some o e)

pub operand_again : (o : Operand) (ps : List Piece) → SpellsOperand o ps → operand_of ps ≡ Some o
operand_again (operand.Immediate n) ps h = rw (h.1, whole_number n h.0 h.2) refl
operand_again (operand.Shifted m s) ps h = rw (h.2, register_again h.0 m h.3, whole_shifting s h.1 h.4) refl

compare_is : (op : Opcode) (s : Suffix) (ps : List Piece) (f : Register × List Piece) (x : Data) → first_register_comma ps ≡ Some f → compare_of op s f.0 f.1 ≡ Some x → SpellsCompare op s x ps
compare_is op s ps f x first e =
    let r = register_comma_front ps f first in
    let k = map_is (λ o. record { opcode = op; sets_flags = true; rn = f.0; rd = compare_rd s; operand = o }) (operand_of f.1) x e in
    record { rn = f.0; last = k.0; means = sym k.2; n = r.0; rest = f.1; pieces = r.1; n-is = r.2; operand = operand_is f.1 k.0 k.1 }

move_is : (op : Opcode) (s : Suffix) (ps : List Piece) (f : Register × List Piece) (x : Data) → first_register_comma ps ≡ Some f → move_of op s f.0 f.1 ≡ Some x → SpellsMove op s x ps
move_is op s ps f x first e =
    let r = register_comma_front ps f first in
    let k = map_is (λ o. record { opcode = op; sets_flags = is_s s; rn = R0; rd = f.0; operand = o }) (operand_of f.1) x e in
    record { rd = f.0; last = k.0; means = sym k.2; d = r.0; rest = f.1; pieces = r.1; d-is = r.2; operand = operand_is f.1 k.0 k.1 }

three_is : (op : Opcode) (s : Suffix) (ps : List Piece) (f : Register × List Piece) (x : Data) → first_register_comma ps ≡ Some f → three_of op s f.0 f.1 ≡ Some x → SpellsThree op s x ps
three_is op s ps f x first e =
    let r = register_comma_front ps f first in
    let g = and_then_is (λ g. option_map (λ o. record { opcode = op; sets_flags = is_s s; rn = g.0; rd = f.0; operand = o }) (operand_of g.1)) (first_register_comma f.1) x e in
    let q = register_comma_front f.1 g.0 g.1 in
    let k = map_is (λ o. record { opcode = op; sets_flags = is_s s; rn = g.0.0; rd = f.0; operand = o }) (operand_of g.0.1) x g.2 in
    record { rd = f.0; rn = g.0.0; last = k.0; means = sym k.2; d = r.0; n = q.0; rest = g.0.1; pieces = r.1 ∙ ap (λ (qs : List Piece). Run r.0 ∷ Comma ∷ qs) q.1; d-is = r.2; n-is = q.2; operand = operand_is g.0.1 k.0 k.1 }

pub data_is : (op : Opcode) (s : Suffix) (ps : List Piece) (x : Data) → data_of op s ps ≡ Some x → SpellsData op s x ps
data_is op s ps x e =
    let k = and_then_is (λ f. data_with op s f.0 f.1) (first_register_comma ps) x e in
    elim (chosen (is_compare op) (compare_of op s k.0.0 k.0.1) _ (Some x) k.2) [
      | inl h ↦ inl (h.0, compare_is op s ps k.0 x k.1 h.1)
      | inr h ↦ elim (chosen (lacks_rn op) (move_of op s k.0.0 k.0.1) (three_of op s k.0.0 k.0.1) (Some x) h.1) [
        | inl g ↦ inr (inl (h.0, g.0, move_is op s ps k.0 x k.1 g.1))
        | inr g ↦ inr (inr (h.0, g.0, three_is op s ps k.0 x k.1 g.1))
      ]
    ]

pub data_again : (op : Opcode) (s : Suffix) (x : Data) (ps : List Piece) → SpellsData op s x ps → data_of op s ps ≡ Some x
data_again op s x ps h =
    elim h [
      | inl k ↦ let c = k.1 in rw (c.pieces, c.means, front_register_comma c.n c.rn c.rest c.n-is, k.0, operand_again c.last c.rest c.operand) refl
      | inr r ↦ elim r [
        | inl k ↦ let c = k.2 in rw (c.pieces, c.means, front_register_comma c.d c.rd c.rest c.d-is, k.0, k.1, operand_again c.last c.rest c.operand) refl
        | inr k ↦ let c = k.2 in
            rw (c.pieces, c.means, front_register_comma c.d c.rd (Run c.n ∷ Comma ∷ c.rest) c.d-is, k.0, k.1, front_register_comma c.n c.rn c.rest c.n-is, operand_again c.last c.rest c.operand) refl
      ]
    ]

-- ## Multiplies

pub product_is : (a : Bool) (s : Suffix) (ps : List Piece) (x : Product) → product_of a s ps ≡ Some x → SpellsMultiply a s x ps
product_is false s ps x e =
    let f = and_then_is (λ f. option_and_then (λ g. factors_of s f.0 g.0 g.1) (first_register_comma f.1)) (first_register_comma ps) x e in
    let g = and_then_is (λ g. factors_of s f.0.0 g.0 g.1) (first_register_comma f.0.1) x f.2 in
    let k = map_is (λ t. record { accumulate = false; sets_flags = is_s s; rd = f.0.0; rn = R0; rs = t; rm = g.0.0 }) (all_read (first_register g.0.1)) x g.2 in
    let d = register_comma_front ps f.0 f.1 in
    let m = register_comma_front f.0.1 g.0 g.1 in
    let t = register_front g.0.1 (k.0, []) (whole_is (first_register g.0.1) k.0 k.1) in
    record {
      rd = f.0.0;
      rm = g.0.0;
      rs = k.0;
      means = sym k.2;
      d = d.0;
      m = m.0;
      f = t.0;
      spelled = d.1 ∙ ap (λ (qs : List Piece). Run d.0 ∷ Comma ∷ qs) (m.1 ∙ ap (λ (qs : List Piece). Run m.0 ∷ Comma ∷ qs) t.1);
      d-is = d.2;
      m-is = m.2;
      f-is = t.2;
    }
product_is true s ps x e =
    let f = and_then_is (λ f. option_and_then (λ g. sum_of s f.0 g.0 g.1) (first_register_comma f.1)) (first_register_comma ps) x e in
    let g = and_then_is (λ g. sum_of s f.0.0 g.0 g.1) (first_register_comma f.0.1) x f.2 in
    let h = and_then_is (λ h. option_map (λ n. record { accumulate = true; sets_flags = is_s s; rd = f.0.0; rn = n; rs = h.0; rm = g.0.0 }) (all_read (first_register h.1))) (first_register_comma g.0.1) x g.2 in
    let k = map_is (λ n. record { accumulate = true; sets_flags = is_s s; rd = f.0.0; rn = n; rs = h.0.0; rm = g.0.0 }) (all_read (first_register h.0.1)) x h.2 in
    let d = register_comma_front ps f.0 f.1 in
    let m = register_comma_front f.0.1 g.0 g.1 in
    let t = register_comma_front g.0.1 h.0 h.1 in
    let n = register_front h.0.1 (k.0, []) (whole_is (first_register h.0.1) k.0 k.1) in
    record {
      rd = f.0.0;
      rm = g.0.0;
      rs = h.0.0;
      rn = k.0;
      means = sym k.2;
      d = d.0;
      m = m.0;
      f = t.0;
      n = n.0;
      spelled = d.1 ∙ ap (λ (qs : List Piece). Run d.0 ∷ Comma ∷ qs) (m.1 ∙ ap (λ (qs : List Piece). Run m.0 ∷ Comma ∷ qs) (t.1 ∙ ap (λ (qs : List Piece). Run t.0 ∷ Comma ∷ qs) n.1));
      d-is = d.2;
      m-is = m.2;
      f-is = t.2;
      n-is = n.2;
    }

pub product_again : (a : Bool) (s : Suffix) (x : Product) (ps : List Piece) → SpellsMultiply a s x ps → product_of a s ps ≡ Some x
product_again false s x ps h =
    rw (h.spelled, h.means, front_register_comma h.d h.rd (Run h.m ∷ Comma ∷ Run h.f ∷ []) h.d-is, front_register_comma h.m h.rm (Run h.f ∷ []) h.m-is, front_register h.f h.rs [] h.f-is) refl
product_again true s x ps h =
    rw (h.spelled, h.means, front_register_comma h.d h.rd (Run h.m ∷ Comma ∷ Run h.f ∷ Comma ∷ Run h.n ∷ []) h.d-is, front_register_comma h.m h.rm (Run h.f ∷ Comma ∷ Run h.n ∷ []) h.m-is, front_register_comma h.f h.rs (Run h.n ∷ []) h.f-is, front_register h.n h.rn [] h.n-is) refl
