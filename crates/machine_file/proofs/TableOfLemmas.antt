-- What is in a table that is built row by row.
use Rattle.std.proofs.Common.{◌≡◌, ℕ, zero, suc, ◌+◌, ◌≤◌, ◌<◌, ◌&&◌, ◌↔◌, not, IsTrue, Bool, true, false, List, [], ◌∷◌, length, map, take, get_or, Option, Some, None, Ordering, Less, Equal, Greater, String, Global, Bor, string_bytes, nat_cmp, is_eq, refl, sym, ap, ◌∙◌, arith}
use Rattle.std.specs.BTreeMap.{insert_entry}
use Rattle.std.specs.Cmp.Lexicographic.{slice_cmp}
use Rattle.std.specs.List.{AllByRecursion, list_all, zip}
use Rattle.std.specs.Ordering.{match_ordering}
use Rattle.std.specs.String.{string_cmp}
use Rattle.std.proofs.lemmas.Bool.{and_parts, false≢true, not-true}
use Rattle.std.proofs.lemmas.List.{get_or-map, length-map}
use Rattle.std.proofs.lemmas.Cmp.{alike_right, nat_list_cmp_total, tied_itself}
use Rattle.toml.specs.Data.{Data, Members, depth, get_member, member, members_depth, no_members, same_key, table}
use Rattle.toml.specs.View.{members_view, view}
use Rattle.toml.specs.declared.value.Value.{Value}
use Rattle.toml_reading.specs.Documents.{has_only_keys, is_one_of}
use Rattle.machine_file.specs.Written.{Row, register_row, table_of, table_value, unless_zero, with_key, with_optional, with_rows}

-- ## What the code's map holds

abbrev Entry : Type 0
Entry = String Global × Value

match_members : (o : Ordering) (a b c : List Entry)
    → members_view (match_ordering o a b c) ≡ match_ordering o (members_view a) (members_view b) (members_view c)
match_members Less a b c = refl
match_members _ a b c = refl

pub view_insert : (es : List Entry) (k : String Global) (v : Value)
    → members_view (insert_entry string_cmp es k v) ≡ with_key (string_bytes k) (view v) (members_view es)
unfolding with_key
view_insert [] k v = refl
view_insert (e ∷ es) k v = match_members (string_cmp k e.0) _ _ _ ∙ rw (view_insert es k v)

-- ## Look-ups

skipped : {A : Type 0} (o : Ordering) (a b : A) → is_eq o ≡ false → match_ordering o a b a ≡ a
skipped Less a b h = refl
skipped Equal a b h = absurd (cc)
skipped Greater a b h = refl

found_at : (o : Ordering) (k : List ℕ) (d : Data) (l : List ℕ) (e : Data) (ms : Members)
    → o ≡ slice_cmp nat_cmp k l
    → get_member k (with_key k d ms) ≡ Some d
    → get_member k (match_ordering o (member k d (member l e ms)) (member l d ms) (member l e (with_key k d ms))) ≡ Some d
found_at Less k d l e ms same ih = rw (tied_itself nat_list_cmp_total k)
found_at Equal k d l e ms same ih = rw (← same)
found_at Greater k d l e ms same ih = rw (← same) ih

found : (k : List ℕ) (d : Data) (ms : Members) → get_member k (with_key k d ms) ≡ Some d
unfolding with_key
found k d no_members = rw (tied_itself nat_list_cmp_total k)
found k d (member l e ms) = found_at (slice_cmp nat_cmp k l) k d l e ms refl (found k d ms)

other_at : (o : Ordering) (k l : List ℕ) (d : Data) (m : List ℕ) (e : Data) (ms : Members)
    → o ≡ slice_cmp nat_cmp l m
    → same_key k l ≡ false
    → get_member k (with_key l d ms) ≡ get_member k ms
    → get_member k (match_ordering o (member l d (member m e ms)) (member m d ms) (member m e (with_key l d ms))) ≡ get_member k (member m e ms)
other_at Less k l d m e ms same apart ih = skipped (slice_cmp nat_cmp k l) _ _ apart
other_at Equal k l d m e ms same apart ih =
    let there : is_eq (slice_cmp nat_cmp k m) ≡ false = ap is_eq (sym (alike_right nat_list_cmp_total l m k (sym same))) ∙ apart in
    skipped (slice_cmp nat_cmp k m) _ _ there ∙ sym (skipped (slice_cmp nat_cmp k m) _ _ there)
other_at Greater k l d m e ms same apart ih = rw ih

other : (k l : List ℕ) (d : Data) (ms : Members) → same_key k l ≡ false
    → get_member k (with_key l d ms) ≡ get_member k ms
unfolding with_key
other k l d no_members apart = skipped (slice_cmp nat_cmp k l) _ _ apart
other k l d (member m e ms) apart = other_at (slice_cmp nat_cmp l m) k l d m e ms refl apart (other k l d ms apart)

other_optional : (k l : List ℕ) (o : Option Data) (ms : Members) → same_key k l ≡ false
    → get_member k (with_optional ms l o) ≡ get_member k ms
other_optional k l None ms apart = refl
other_optional k l (Some d) ms apart = other k l d ms apart

found_optional : (k : List ℕ) (o : Option Data) (ms : Members) → get_member k ms ≡ None
    → get_member k (with_optional ms k o) ≡ o
found_optional k None ms missing = missing
found_optional k (Some d) ms missing = found k d ms

-- the two keys are told apart, in either order
abbrev pub differ : List ℕ → List ℕ → Bool
differ k l = not (same_key k l) && not (same_key l k)

abbrev pub all_differ : List (List ℕ) → Bool
all_differ [] = true
all_differ (k ∷ ks) = list_all (differ k) ks && all_differ ks

abbrev pub row_keys : List Row → List (List ℕ)
row_keys rows = map (λ r. r.0) rows

differ_parts : (k l : List ℕ) → differ k l ≡ true → (same_key k l ≡ false) × (same_key l k ≡ false)
differ_parts k l h =
    let parts = and_parts (not (same_key k l)) (not (same_key l k)) h in
    (not-true (same_key k l) parts.0, not-true (same_key l k) parts.1)

-- a key that is none of the rows' stays as it is
kept : (k : List ℕ) (rows : List Row) (ms : Members) → list_all (differ k) (row_keys rows) ≡ true
    → get_member k (with_rows ms rows) ≡ get_member k ms
kept k [] ms h = refl
kept k (r ∷ rows) ms h =
    let parts = and_parts (differ k r.0) (list_all (differ k) (row_keys rows)) h in
    kept k rows (with_optional ms r.0 r.1) parts.1 ∙ other_optional k r.0 r.1 ms (differ_parts k r.0 parts.0).0

abbrev pub Missing : Members → List Row → Type 0
Missing ms rows = AllByRecursion (λ r. get_member r.0 ms ≡ None) rows

abbrev pub Found : Members → List Row → Type 0
Found ms rows = AllByRecursion (λ r. get_member r.0 ms ≡ r.1) rows

still_missing : (k : List ℕ) (o : Option Data) (rows : List Row) (ms : Members)
    → list_all (differ k) (row_keys rows) ≡ true → Missing ms rows → Missing (with_optional ms k o) rows
still_missing k o [] ms h missing = tt
still_missing k o (r ∷ rows) ms h missing =
    let parts = and_parts (differ k r.0) (list_all (differ k) (row_keys rows)) h in (
      other_optional r.0 k o ms (differ_parts k r.0 parts.0).1 ∙ missing.0,
      still_missing k o rows ms parts.1 missing.1,
    )

found_rows : (rows : List Row) (ms : Members) → all_differ (row_keys rows) ≡ true → Missing ms rows
    → Found (with_rows ms rows) rows
found_rows [] ms h missing = tt
found_rows (r ∷ rows) ms h missing =
    let parts = and_parts (list_all (differ r.0) (row_keys rows)) (all_differ (row_keys rows)) h in (
      kept r.0 rows (with_optional ms r.0 r.1) parts.0 ∙ found_optional r.0 r.1 ms missing.0,
      found_rows rows (with_optional ms r.0 r.1) parts.1 (still_missing r.0 r.1 rows ms parts.0 missing.1),
    )

all_missing : (rows : List Row) → Missing no_members rows
all_missing [] = tt
all_missing (r ∷ rows) = (refl, all_missing rows)

-- each key of the rows holds its value
pub found_in_table : (rows : List Row) → all_differ (row_keys rows) ≡ true → Found (table_of rows) rows
found_in_table rows h = found_rows rows no_members h (all_missing rows)

-- and no other key has one
pub missing_in_table : (k : List ℕ) (rows : List Row) → list_all (differ k) (row_keys rows) ≡ true
    → get_member k (table_of rows) ≡ None
missing_in_table k rows h = kept k rows no_members h

-- ## Keys

known_at : (o : Ordering) (keys : List (List ℕ)) (k l : List ℕ) (d e : Data) (ms : Members)
    → is_one_of keys k ≡ true → is_one_of keys l ≡ true → has_only_keys keys ms ≡ true
    → has_only_keys keys (with_key k d ms) ≡ true
    → has_only_keys keys (match_ordering o (member k d (member l e ms)) (member l d ms) (member l e (with_key k d ms))) ≡ true
known_at Less keys k l d e ms here there rest ih = rw (here, there, rest)
known_at Equal keys k l d e ms here there rest ih = rw (there, rest)
known_at Greater keys k l d e ms here there rest ih = rw (there, ih)

known_with : (keys : List (List ℕ)) (k : List ℕ) (d : Data) (ms : Members) → is_one_of keys k ≡ true
    → has_only_keys keys ms ≡ true → has_only_keys keys (with_key k d ms) ≡ true
unfolding with_key
known_with keys k d no_members here h = rw here
known_with keys k d (member l e ms) here h =
    let parts = and_parts (is_one_of keys l) (has_only_keys keys ms) h in
    known_at (slice_cmp nat_cmp k l) keys k l d e ms here parts.0 parts.1 (known_with keys k d ms here parts.1)

known_optional : (keys : List (List ℕ)) (k : List ℕ) (o : Option Data) (ms : Members) → is_one_of keys k ≡ true
    → has_only_keys keys ms ≡ true → has_only_keys keys (with_optional ms k o) ≡ true
known_optional keys k None ms here h = h
known_optional keys k (Some d) ms here h = known_with keys k d ms here h

known_rows : (keys : List (List ℕ)) (rows : List Row) (ms : Members)
    → list_all (is_one_of keys) (row_keys rows) ≡ true → has_only_keys keys ms ≡ true
    → has_only_keys keys (with_rows ms rows) ≡ true
known_rows keys [] ms here h = h
known_rows keys (r ∷ rows) ms here h =
    let parts = and_parts (is_one_of keys r.0) (list_all (is_one_of keys) (row_keys rows)) here in
    known_rows keys rows (with_optional ms r.0 r.1) parts.1 (known_optional keys r.0 r.1 ms parts.0 h)

-- the table has no other keys than its rows
pub known_in_table : (keys : List (List ℕ)) (rows : List Row)
    → list_all (is_one_of keys) (row_keys rows) ≡ true → has_only_keys keys (table_of rows) ≡ true
known_in_table keys rows here = known_rows keys rows no_members here refl

-- ## Depths

depth_at : (o : Ordering) (n : ℕ) (k l : List ℕ) (d e : Data) (ms : Members)
    → depth d ≤ n → depth e ≤ n → members_depth ms ≤ n → members_depth (with_key k d ms) ≤ n
    → members_depth (match_ordering o (member k d (member l e ms)) (member l d ms) (member l e (with_key k d ms))) ≤ n
depth_at Less n k l d e ms a b c ih = omega (arith, a, b, c)
depth_at Equal n k l d e ms a b c ih = omega (arith, a, c)
depth_at Greater n k l d e ms a b c ih = omega (arith, b, ih)

depth_with : (n : ℕ) (k : List ℕ) (d : Data) (ms : Members) → depth d ≤ n → members_depth ms ≤ n
    → members_depth (with_key k d ms) ≤ n
unfolding with_key
depth_with n k d no_members a h = omega (arith, a)
depth_with n k d (member l e ms) a h =
    let here : depth e ≤ n = omega (arith, h) in
    let rest : members_depth ms ≤ n = omega (arith, h) in
    depth_at (slice_cmp nat_cmp k l) n k l d e ms a here rest (depth_with n k d ms a rest)

abbrev pub optional_depth : Option Data → ℕ
optional_depth None = 0
optional_depth (Some d) = depth d

depth_optional : (n : ℕ) (k : List ℕ) (o : Option Data) (ms : Members) → optional_depth o ≤ n
    → members_depth ms ≤ n → members_depth (with_optional ms k o) ≤ n
depth_optional n k None ms a h = h
depth_optional n k (Some d) ms a h = depth_with n k d ms a h

depth_rows : (n : ℕ) (rows : List Row) (ms : Members) → AllByRecursion (λ r. optional_depth r.1 ≤ n) rows
    → members_depth ms ≤ n → members_depth (with_rows ms rows) ≤ n
depth_rows n [] ms a h = h
depth_rows n (r ∷ rows) ms a h = depth_rows n rows (with_optional ms r.0 r.1) a.1 (depth_optional n r.0 r.1 ms a.0 h)

pub depth_of_table : (n : ℕ) (rows : List Row) → AllByRecursion (λ r. optional_depth r.1 ≤ n) rows
    → members_depth (table_of rows) ≤ n
depth_of_table n rows a = depth_rows n rows no_members a (omega arith)

-- ## Row after row

rows_next_suc : (ks : List (List ℕ)) (ws : List ℕ) (i : ℕ) (ms : Members) → i < length ks → i < length ws
    → with_rows ms (map register_row (zip ks (take (suc i) ws))) ≡ with_optional (with_rows ms (map register_row (zip ks (take i ws)))) (register_row (get_or ks i [], get_or ws i 0)).0 (register_row (get_or ks i [], get_or ws i 0)).1
rows_next_suc [] ws i ms a b = absurd (omega arith)
rows_next_suc (k ∷ ks) [] i ms a b = absurd (omega arith)
rows_next_suc (k ∷ []) (w ∷ ws) zero ms a b = refl
rows_next_suc (k ∷ l ∷ ks) (w ∷ ws) zero ms a b = refl
rows_next_suc (k ∷ ks) (w ∷ ws) (suc i) ms a b =
    rows_next_suc ks ws i (with_optional ms (register_row (k, w)).0 (register_row (k, w)).1) (omega arith) (omega arith)

pub no_rows : (ks : List (List ℕ)) (ms : Members) → ms ≡ with_rows ms (map register_row (zip {X = ℕ} ks []))
no_rows [] ms = refl
no_rows (k ∷ ks) ms = refl

-- one more of the code's names and words
pub rows_next : (names : List (Bor (List ℕ))) (ws : List ℕ) (d : Bor (List ℕ)) (i : ℕ) (start m n : Members)
    → length ws ≤ length names → i < length ws
    → m ≡ with_rows start (map register_row (zip (map (λ x. x.now) names) (take i ws)))
    → n ≡ with_optional m (get_or names i d).now (unless_zero (get_or ws i 0))
    → n ≡ with_rows start (map register_row (zip (map (λ x. x.now) names) (take (i + 1) ws)))
rows_next names ws d i start m n known lt before set =
    let ks : List (List ℕ) = map (λ x. x.now) names in
    let count : length ks ≡ length names = length-map names (λ x. x.now) in
    let near : i < length names = omega arith in
    let within : i < length ks = omega (arith, count, near) in
    let key : get_or ks i [] ≡ (get_or names i d).now = get_or-map (λ x. x.now) names i d [] near in
    let next : i + 1 ≡ suc i = omega arith in
    set
    ∙ ap (λ k. with_optional m k (unless_zero (get_or ws i 0))) (sym key)
    ∙ ap (λ t. with_optional t (get_or ks i []) (unless_zero (get_or ws i 0))) before
    ∙ sym (rows_next_suc ks ws i start within lt)
    ∙ ap (λ (k : ℕ). with_rows start (map register_row (zip ks (take k ws)))) (sym next)

-- ## Values that are left out

pub tabled_full : (es : List Entry) (b : Bool) → IsTrue b ↔ (length es ≡ 0) → b ≡ false
    → table_value (members_view es) ≡ Some (table (members_view es))
tabled_full [] b same h = absurd (false≢true (sym h ∙ same.1 refl))
tabled_full (e ∷ es) b same h = refl
