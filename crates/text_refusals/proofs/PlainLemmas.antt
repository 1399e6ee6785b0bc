-- What plain lines state.
use Rattle.std.proofs.Common.{◌≡◌, ◌≤◌, ◌-◌, ◌+◌, ◌||◌, ◌&&◌, ◌==◌, ◌++◌, if◌then◌else◌, nat_eq, zero, suc, ℕ, Bool, true, false, List, [], ◌∷◌, Some, None, length, take, drop, codes, refl, sym, ap, ◌∙◌, append_assoc, append-nil, arith}
use Rattle.std.specs.Prelude.{not}
use Rattle.std.specs.List.{list_all, onto_first, prefix_len}
use Rattle.std.proofs.Math.Seq.{drop-append_seam, take-append_seam}
use Rattle.std.proofs.lemmas.Bool.{and_from, and_parts, eqb-false, eqb-true, false_from_ne_true, not-true, or_parts}
use Rattle.std.proofs.lemmas.List.{length-append}
use Rattle.std.proofs.lemmas.List.Folds.{list_all-append}
use Rattle.asm_text.specs.Pieces.{is_blank}
use Rattle.asm_text.specs.Source.{lines_of}
use Rattle.text_refusals.specs.Outline.{Array, Bare, Begins, Cut, Gap, InlineTable, Item, Key, Token, Quoted, Reading, States, Table, TableKeys, OfValue, Value, after_two, all_taken, bare_at, first_token, head_read, header_of, is_bare, is_bracket, is_gap, is_quote, line_read, lines_read, past_blanks, token_at, tokens, quoted_by, quoted_len, taken, text_left, key_or_value, wanted, word_at}
use Rattle.text_refusals.specs.PlainLines.{ArePlain, Heading, IsPlainValue, PlainLine, Setting, is_plain, is_quotable, items_from, line_text, lines_text}
use Rattle.text_refusals.specs.Refused.{value_text}
use Rattle.text_refusals.proofs.OutlineLemmas.{after_first, one_token}

not_or : (x y : Bool) → not (x || y) ≡ true → (x ≡ false) × (not y ≡ true)
not_or false y h = (refl, h)
not_or true y h = cc

-- what a byte of a word is not
record BareByte (b : ℕ) : Type 0 where
  gap : is_gap b ≡ false
  quote : is_quote b ≡ false
  bracket : is_bracket b ≡ false
  comment : (b == 35) ≡ false

bare_byte : (b : ℕ) → is_bare b ≡ true → BareByte b
bare_byte b h =
    let one = not_or (is_gap b) (is_quote b || (is_bracket b || b == 35)) h in
    let two = not_or (is_quote b) (is_bracket b || b == 35) one.1 in
    let three = not_or (is_bracket b) (b == 35) two.1 in
    record { gap = one.0; quote = two.0; bracket = three.0; comment = not-true (b == 35) three.1 }

record NoGap (b : ℕ) : Type 0 where
  blank : is_blank b ≡ false
  return : (b == 13) ≡ false

no_gap : (b : ℕ) → is_gap b ≡ false → NoGap b
no_gap b h =
    let one = or_parts (is_blank b) (b == 13 || (b == 61 || b == 44)) h in
    let two = or_parts (b == 13) (b == 61 || b == 44) one.1 in
    record { blank = one.0; return = two.0 }

no_open : (b : ℕ) → is_bracket b ≡ false → (b == 91) ≡ false
no_open b h = (or_parts (b == 91) (b == 93 || (b == 123 || b == 125)) h).0

-- ## Words

word_len : (p : ℕ → Bool) (w rest : List ℕ) → list_all p w ≡ true → prefix_len p rest ≡ 0 → prefix_len p (w ++ rest) ≡ length w
word_len p [] rest h stops = stops
word_len p (b ∷ w) rest h stops = let parts = and_parts (p b) (list_all p w) h in
    let rec = word_len p w rest parts.1 stops in rw parts.0 (omega (arith, rec))

plain_parts : (w : List ℕ) → list_all is_plain w ≡ true → list_all is_bare w ≡ true
plain_parts [] h = refl
plain_parts (b ∷ w) h =
    let parts = and_parts (is_plain b) (list_all is_plain w) h in
    rw ((and_parts (is_bare b) (not (b == 10)) parts.0).0) (plain_parts w parts.1)

-- the first byte of a word
record First (b : ℕ) : Type 0 where
  bare : BareByte b
  no_gap : NoGap b

first_of : (b : ℕ) (w : List ℕ) → list_all is_plain (b ∷ w) ≡ true → First b
first_of b w h =
    let parts = and_parts (is_plain b) (list_all is_plain w) h in
    let bare = bare_byte b (and_parts (is_bare b) (not (b == 10)) parts.0).0 in
    record { bare = bare; no_gap = no_gap b bare.gap }

taken_word : (w rest : List ℕ) → list_all is_plain w ≡ true → prefix_len is_bare rest ≡ 0 → take (prefix_len is_bare (w ++ rest)) (w ++ rest) ≡ w
taken_word w rest h stops = ap (λ n. take n (w ++ rest)) (word_len is_bare w rest (plain_parts w h) stops) ∙ take-append_seam w rest

left_of_word : (w rest : List ℕ) → list_all is_plain w ≡ true → prefix_len is_bare rest ≡ 0 → drop (prefix_len is_bare (w ++ rest)) (w ++ rest) ≡ rest
left_of_word w rest h stops = ap (λ n. drop n (w ++ rest)) (word_len is_bare w rest (plain_parts w h) stops) ∙ drop-append_seam w rest

-- what a word begins
word_token : (b : ℕ) (w rest : List ℕ) → list_all is_plain (b ∷ w) ≡ true → prefix_len is_bare rest ≡ 0 → first_token ((b ∷ w) ++ rest) ≡ Some (key_or_value (Bare (b ∷ w)) rest, rest)
word_token b w rest h stops =
    let f = (first_of b w h).bare in
    let here : token_at b (w ++ rest) ≡ bare_at ((b ∷ w) ++ rest) = rw (f.comment, f.gap, f.bracket, f.quote) refl in
    let text = (b ∷ w) ++ rest in
    let n = prefix_len is_bare text in
    ap (λ (x : Token × List ℕ). Some x) (here
    ∙ (ap (λ v. (key_or_value (Bare v) (drop n text), drop n text)) (taken_word (b ∷ w) rest h stops)
    ∙ ap (λ v. (key_or_value (Bare (b ∷ w)) v, v)) (left_of_word (b ∷ w) rest h stops)))

-- ## Lines

no_tokens : (line : ℕ) (r : Reading) (n : ℕ) → all_taken line r (tokens n []) ≡ r
unfolding all_taken tokens
no_tokens line r zero = refl
no_tokens line r (suc n) = refl

next : (line : ℕ) (r : Reading) (n : ℕ) (text : List ℕ) (p : Token) (rest : List ℕ) → first_token text ≡ Some (p, rest) → all_taken line r (tokens (suc n) text) ≡ all_taken line (taken line r p) (tokens n rest)
next line r n text p rest is = one_token line r n text ∙ ap (after_first line r n) is

-- a byte of a text in double quotes
record Quotable (b : ℕ) : Type 0 where
  quote : (b == 34) ≡ false
  escape : (b == 92) ≡ false
  feed : (b == 10) ≡ false
  return : (b == 13) ≡ false

quotable : (b : ℕ) → is_quotable b ≡ true → Quotable b
quotable b h =
    let one = not_or (b == 34) (b == 92 || (b == 10 || b == 13)) h in
    let two = not_or (b == 92) (b == 10 || b == 13) one.1 in
    let three = not_or (b == 10) (b == 13) two.1 in
    record { quote = one.0; escape = two.0; feed = three.0; return = not-true (b == 13) three.1 }

abbrev past_quotes : List ℕ → List ℕ
past_quotes after = drop (prefix_len is_quote after) after

shorter : (w : List ℕ) → (length w == length (w ++ 34 ∷ [])) ≡ false
shorter w =
    false_from_ne_true (length w == length (w ++ 34 ∷ []))
    (λ t. let e = eqb-true (length w) (length (w ++ 34 ∷ [])) t in omega (arith, e, length-append w (34 ∷ [])))

flipped : (b : ℕ) → (b == 34) ≡ false → nat_eq 34 b ≡ false
flipped b h = false_from_ne_true (nat_eq 34 b) (λ t. eqb-false b 34 h (sym (eqb-true 34 b t)))

quoted_text : (w : List ℕ) → list_all is_quotable w ≡ true → quoted_len (codes "\"") false (w ++ 34 ∷ []) ≡ length w
unfolding quoted_len
quoted_text [] h = refl
quoted_text (b ∷ w) h =
    let parts = and_parts (is_quotable b) (list_all is_quotable w) h in
    let here = quotable b parts.0 in
    let rec = quoted_text w parts.1 in rw (flipped b here.quote, here.escape) (omega (arith, rec))

-- a text in single quotes begins with no three
no_long : (w : List ℕ) → list_all is_quotable w ≡ true → after_two 34 (w ++ 34 ∷ []) ≡ None
no_long [] h = refl
no_long (b ∷ []) h = rw ((quotable b (and_parts (is_quotable b) true h).0).quote) refl
no_long (b ∷ (c ∷ w)) h = rw ((quotable b (and_parts (is_quotable b) (list_all is_quotable (c ∷ w)) h).0).quote) refl

-- what a value begins
value_token : (value : Value) → IsPlainValue value → first_token (value_text value) ≡ Some (OfValue value, [])
value_token (Bare []) h = absurd h
value_token (Bare (b ∷ w)) h = ap first_token (sym (append-nil (b ∷ w))) ∙ word_token b w [] h refl
value_token (Quoted quotes w) h =
    let text = w ++ 34 ∷ [] in
    let len : quoted_len (codes "\"") false text ≡ length w = quoted_text w h.1 in
    let rest : drop 1 (drop (length w) text) ≡ [] = ap (drop 1) (drop-append_seam w (34 ∷ [])) in
    let ends : (length w == length text) ≡ false = shorter w in
    rw (h.0) (
    ap (λ o. Some (quoted_by 34 text o)) (no_long w h.1)
    ∙ (ap (λ n. Some (text_left (codes "\"") text (if n == length text then None else Some (past_quotes (drop 1 (drop n text)))))) len
    ∙ (ap (λ b. Some (text_left (codes "\"") text (if b then None else Some (past_quotes (drop 1 (drop (length w) text)))))) ends
    ∙ (ap (λ t. Some (word_at (Quoted (codes "\"") (take (quoted_len (codes "\"") false text) text)) (past_quotes t))) rest
    ∙ (ap (λ n. Some (word_at (Quoted (codes "\"") (take n text)) [])) len
    ∙ ap (λ t. Some (word_at (Quoted (codes "\"") t) [])) (take-append_seam w (34 ∷ []))))))
    )
value_token (Cut quotes w) h = absurd h
value_token (Array e) h = absurd h
value_token (InlineTable e) h = absurd h

-- a reading between two lines, in a table of the list, after the key
abbrev standing : TableKeys → (list key : List ℕ) → List Item → Reading
standing keys list key items = record { keys = keys; at = record { list = list; key = key; depth = 0; is_part = true }; around = []; quotes = []; items = items }

abbrev stated : (n : ℕ) (list key : List ℕ) → Value → Item
stated n list key value = States (record { line = n; list = list; key = key; depth = 0; value = value })

-- a plain value wants no more quotes
none_wanted : (value : Value) → IsPlainValue value → wanted value ≡ []
none_wanted (Bare w) h = refl
none_wanted (Quoted quotes w) h = refl
none_wanted (Cut quotes w) h = absurd h
none_wanted (Array e) h = absurd h
none_wanted (InlineTable e) h = absurd h

set_line : (keys : TableKeys) (line : ℕ) (list last : List ℕ) (items : List Item) (n b : ℕ) (key : List ℕ) (value : Value) → list_all is_plain (b ∷ key) ≡ true → IsPlainValue value
    → all_taken line (standing keys list last items) (tokens (suc (suc (suc (suc (suc n))))) ((b ∷ key) ++ (codes " = " ++ value_text value))) ≡ standing keys list (b ∷ key) (items ++ stated line list (b ∷ key) value ∷ [])
set_line keys line list last items n b key value is_key is_value =
    let r = standing keys list last items in
    let s = standing keys list (b ∷ key) items in
    let end = items ++ stated line list (b ∷ key) value ∷ [] in
    let text = value_text value in
    next line r (suc (suc (suc (suc n)))) _ (Key (b ∷ key)) (codes " = " ++ text) (word_token b key (codes " = " ++ text) is_key refl)
    ∙ (next line s (suc (suc (suc n))) _ Gap (codes "= " ++ text) refl
    ∙ (next line s (suc (suc n)) _ Gap (codes " " ++ text) refl
    ∙ (next line s (suc n) _ Gap text refl
    ∙ (next line s n _ (OfValue value) [] (value_token value is_value)
    ∙ (no_tokens line (taken line s (OfValue value)) n
    ∙ ap (λ q. record (standing keys list (b ∷ key) end) { quotes = q }) (none_wanted value is_value))))))

heading : (line : ℕ) (b : ℕ) (name : List ℕ) → list_all is_plain (b ∷ name) ≡ true
    → header_of line (line_text (Heading (b ∷ name))) ≡ Some (record { line = line; name = b ∷ name; is_listed = true })
heading line b name h =
    let end = codes "]]" in
    let blank : past_blanks ((b ∷ name) ++ end) ≡ (b ∷ name) ++ end = rw (((first_of b name h).no_gap).blank) refl in
    ap (λ t. Some (record { line = line; name = take (prefix_len is_bare t) t; is_listed = true })) blank
    ∙ ap (λ t. Some (record { line = line; name = t; is_listed = true })) (taken_word (b ∷ name) end h refl)

no_heading : (line b : ℕ) (key rest : List ℕ) → list_all is_plain (b ∷ key) ≡ true → header_of line ((b ∷ key) ++ rest) ≡ None
no_heading line b key rest h = let f = first_of b key h in rw ((f.no_gap).blank, no_open b (f.bare).bracket) refl

some_text : (value : Value) → IsPlainValue value → 1 ≤ length (value_text value)
some_text (Bare []) h = absurd h
some_text (Bare (b ∷ w)) h = omega arith
some_text (Quoted quotes w) h = rw (h.0) (omega arith)
some_text (Cut quotes w) h = absurd h
some_text (Array e) h = absurd h
some_text (InlineTable e) h = absurd h

set_read : (keys : TableKeys) (line : ℕ) (list last : List ℕ) (items : List Item) (b : ℕ) (key : List ℕ) (value : Value) → list_all is_plain (b ∷ key) ≡ true → IsPlainValue value
    → line_read line (standing keys list last items) (line_text (Setting (b ∷ key) value)) ≡ standing keys list (b ∷ key) (items ++ stated line list (b ∷ key) value ∷ [])
set_read keys line list last items b key value is_key is_value =
    let r = standing keys list last items in
    let text = line_text (Setting (b ∷ key) value) in
    let after = codes " = " ++ value_text value in
    let n = length key + (length (value_text value) - 1) in
    let some = some_text value is_value in
    let count : length text ≡ suc (suc (suc (suc (suc n)))) = omega (arith, length-append key after, some) in
    ap (head_read line r text) (no_heading line b key after is_key)
    ∙ (ap (λ k. all_taken line r (tokens k text)) count ∙ set_line keys line list last items n b key value is_key is_value)

-- ## Texts

abbrev goes_on : ℕ → Bool
goes_on b = not (b == 10) && not (b == 13)

first_ends : (text rest : List ℕ) → list_all goes_on text ≡ true → lines_of (text ++ 10 ∷ rest) ≡ text ∷ lines_of rest
unfolding lines_of
first_ends [] rest h = refl
first_ends (b ∷ text) rest h =
    let parts = and_parts (goes_on b) (list_all goes_on text) h in
    let here = and_parts (not (b == 10)) (not (b == 13)) parts.0 in
    rw (not-true (b == 10) here.0, not-true (b == 13) here.1) (ap (onto_first b) (first_ends text rest parts.1))

plain_goes_on : (w : List ℕ) → list_all is_plain w ≡ true → list_all goes_on w ≡ true
plain_goes_on [] h = refl
plain_goes_on (b ∷ w) h =
    let parts = and_parts (is_plain b) (list_all is_plain w) h in
    let here = and_parts (is_bare b) (not (b == 10)) parts.0 in
    let return = (no_gap b (bare_byte b here.0).gap).return in
    and_from (goes_on b) (list_all goes_on w) (and_from (not (b == 10)) (not (b == 13)) here.1 (ap not return)) (plain_goes_on w parts.1)

both_go_on : (xs ys : List ℕ) → list_all goes_on xs ≡ true → list_all goes_on ys ≡ true → list_all goes_on (xs ++ ys) ≡ true
both_go_on xs ys h k = list_all-append goes_on xs ys ∙ and_from (list_all goes_on xs) (list_all goes_on ys) h k

quoted_goes_on : (w : List ℕ) → list_all is_quotable w ≡ true → list_all goes_on w ≡ true
quoted_goes_on [] h = refl
quoted_goes_on (b ∷ w) h =
    let parts = and_parts (is_quotable b) (list_all is_quotable w) h in
    let here = quotable b parts.0 in
    and_from (goes_on b) (list_all goes_on w) (and_from (not (b == 10)) (not (b == 13)) (ap not here.feed) (ap not here.return)) (quoted_goes_on w parts.1)

value_goes_on : (value : Value) → IsPlainValue value → list_all goes_on (value_text value) ≡ true
value_goes_on (Bare []) h = absurd h
value_goes_on (Bare (b ∷ w)) h = plain_goes_on (b ∷ w) h
value_goes_on (Quoted quotes w) h = rw (h.0) (both_go_on w (34 ∷ []) (quoted_goes_on w h.1) refl)
value_goes_on (Cut quotes w) h = absurd h
value_goes_on (Array e) h = absurd h
value_goes_on (InlineTable e) h = absurd h

no_line : (n : ℕ) (r : Reading) → lines_read n r (lines_of []) ≡ r
unfolding lines_read lines_of
no_line n r = refl

one_line : (n : ℕ) (r : Reading) (text rest : List ℕ) → list_all goes_on text ≡ true
    → lines_read n r (lines_of (text ++ 10 ∷ rest)) ≡ lines_read (n + 1) (line_read n r text) (lines_of rest)
unfolding lines_read
one_line n r text rest h = ap (lines_read n r) (first_ends text rest h)

pub lines_state : (keys : TableKeys) (n : ℕ) (list last : List ℕ) (items : List Item) (lines : List PlainLine) → ArePlain lines → (lines_read n (standing keys list last items) (lines_of (lines_text lines))).items ≡ items ++ items_from n list lines
lines_state keys n list last items [] h = ap (λ (s : Reading). s.items) (no_line n (standing keys list last items)) ∙ sym (append-nil items)
lines_state keys n list last items (Heading [] ∷ lines) h = absurd h.0
lines_state keys n list last items (Setting [] value ∷ lines) h = absurd h.0.0
lines_state keys n list last items (Heading (b ∷ name) ∷ lines) h =
    let r = standing keys list last items in
    let rest = lines_text lines in
    let text = line_text (Heading (b ∷ name)) in
    let t : Table = record { line = n; name = b ∷ name; is_listed = true } in
    let ends = both_go_on (b ∷ name) (codes "]]") (plain_goes_on (b ∷ name) h.0) refl in
    ap (λ (s : Reading). s.items) (one_line n r text rest ends ∙ ap (λ o. lines_read (n + 1) (head_read n r text o) (lines_of rest)) (heading n b name h.0))
    ∙ (lines_state keys (n + 1) (b ∷ name) [] (items ++ Begins t ∷ []) lines h.1 ∙ append_assoc items (Begins t ∷ []) (items_from (n + 1) (b ∷ name) lines))
lines_state keys n list last items (Setting (b ∷ key) value ∷ lines) h =
    let r = standing keys list last items in
    let rest = lines_text lines in
    let text = line_text (Setting (b ∷ key) value) in
    let i = stated n list (b ∷ key) value in
    let ends = both_go_on (b ∷ key) (codes " = " ++ value_text value) (plain_goes_on (b ∷ key) h.0.0) (value_goes_on value h.0.1) in
    ap (λ (s : Reading). s.items) (one_line n r text rest ends ∙ ap (λ s. lines_read (n + 1) s (lines_of rest)) (set_read keys n list last items b key value h.0.0 h.0.1))
    ∙ (lines_state keys (n + 1) list (b ∷ key) (items ++ i ∷ []) lines h.1 ∙ append_assoc items (i ∷ []) (items_from (n + 1) list lines))
