-- The lines of a certificate are those that follow one another up to the last.
use Rattle.std.proofs.Common.{◌≡◌, ◌≢◌, ◌∙◌, Bool, true, false, ℕ, ◌<◌, ◌^◌, List, [], ◌∷◌, ◌++◌, Option, Some, None, map, filter_map, take, refl, sym, ap, ap₂, subst, arith, append-nil, if◌then◌else◌, true≢false, ◌==◌}
use Rattle.std.specs.List.{AllByRecursion, cons_option, last_or}
use Rattle.std.specs.Cmp.Lexicographic.{bytes_decides, pointwise}
use Rattle.std.proofs.lemmas.List.Elements.{All-from_recursion}
use Rattle.asm_text.proofs.WordLaws.{all_join}
use Rattle.bus_ticks.specs.Numbers.{profile_one}
use Rattle.bus_ticks.specs.Ranges.{IsPrice}
use Rattle.longest_walk.specs.declared.rows.PlaceRow.{PlaceRow}
use Rattle.longest_walk.specs.declared.rows.InstanceRow.{InstanceRow}
use Rattle.longest_walk.specs.Rows.{header_of_row, place_of_row}
use Rattle.certificate.specs.declared.draft.Stage.TheVariants as s
use Rattle.certificate.specs.declared.line.Version.TheVariants.{One, Two}
use Rattle.certificate.specs.declared.line.WalkLine.{WalkLine}
use Rattle.certificate.specs.declared.line.Line.{Line}
use Rattle.certificate.specs.declared.line.Line.TheVariants as l
use Rattle.certificate.specs.Follows.{follows, reached_by, start}
use Rattle.certificate.specs.Lines.{CanSpell, Said, cert_lines, head_lines}
use Rattle.certificate.specs.Walk.{Nest, follow_all, outside}
use Rattle.certificate.specs.Words.{InstanceFits, IsProfile, LineFits, PlaceFits, WalkFits}
use Rattle.certificate.proofs.FollowLaws.{ascends_from_sorted, at, places_follow, sorted_from_ascends, tail_follows, walk_follows}
use Rattle.certificate.proofs.ParseLaws.{Ends, Walked, not_done, walked_in}

-- ## The first profile

pub one_is_profile : IsProfile profile_one
one_is_profile = record {
  whole = refl;
  ranges = record { prices = All-from_recursion IsPrice (take 14 profile_one) (((omega arith, omega arith), ((omega arith, omega arith), ((omega arith, omega arith), ((omega arith, omega arith), ((omega arith, omega arith), ((omega arith, omega arith), ((omega arith, omega arith), ((omega arith, omega arith), ((omega arith, omega arith), ((omega arith, omega arith), ((omega arith, omega arith), ((omega arith, omega arith), ((omega arith, omega arith), ((omega arith, omega arith), tt))))))))))))))); burst = omega arith };
  ordered = record { s_first = omega arith; quad_second = omega arith; n_below = omega arith; rom_below = omega arith; control_below = omega arith };
}

abbrev is_one : List ℕ → Bool
is_one numbers = pointwise ◌==◌ numbers profile_one

-- numbers that are not the first profile's
other_head : (numbers : List ℕ) → numbers ≢ profile_one → is_one numbers ≡ false
other_head numbers other = by (is_one numbers) refl
  where
    by : (b : Bool) → is_one numbers ≡ b → is_one numbers ≡ false
    by true e = absurd (other ((bytes_decides numbers profile_one).0 e))
    by false e = e

head-other : (numbers : List ℕ) → numbers ≢ profile_one → head_lines numbers ≡ l.Title Two ∷ l.Profile numbers ∷ []
head-other numbers other = ap (λ (b : Bool). if b then l.Title One ∷ [] else l.Title Two ∷ l.Profile numbers ∷ []) (other_head numbers other)

-- ## Lines up to the last are a certificate's

pub record Spelled (lines : List Line) : Type 0 where
  pub said : Said
  pub spelled : CanSpell said
  pub lines_are : lines ≡ cert_lines said

-- from the bound on
spelled_from : (numbers : List ℕ) (bound : ℕ) (lines : List Line) → IsProfile numbers → bound < 2 ^ 63 → Walked outside lines → Spelled (head_lines numbers ++ l.Bound bound ∷ lines)
spelled_from numbers bound lines profile small w = record {
  said = record { numbers = numbers; bound = bound; walk = w.walk; places = w.rows.places; instances = w.rows.instances.rows };
  spelled = record {
    profile = profile;
    bound = small;
    steps = w.fit;
    nested = record { some = w.to.some; ends = w.nested ∙ ap (λ (k : ℕ). Some (record { opened = k; some = w.to.some })) w.whole };
    places = w.rows.fit;
    places_ascend = sorted_from_ascends (map place_of_row w.rows.places) w.rows.ascend;
    instances = w.rows.instances.fit;
    instances_ascend = sorted_from_ascends (map header_of_row w.rows.instances.rows) w.rows.instances.ascend;
  };
  lines_are = ap (λ (xs : List Line). head_lines numbers ++ l.Bound bound ∷ xs) (w.lines_are ∙ ap (λ (xs : List Line). map l.Walk w.walk ++ l.Close ∷ xs) (w.rows.lines_are ∙ ap (λ (xs : List Line). map l.Place w.rows.places ++ xs) w.rows.instances.lines_are));
}

bound_in : (numbers : List ℕ) (lines : List Line) → IsProfile numbers → AllByRecursion LineFits lines → Ends (at outside s.Bound) lines → Spelled (head_lines numbers ++ lines)
bound_in numbers [] profile fits ends = absurd (cc (not_done ends.0 ends.1 ends.2))
bound_in numbers (l.Title v ∷ lines) profile fits ends = absurd (cc ends.1)
bound_in numbers (l.Profile ns ∷ lines) profile fits ends = absurd (cc ends.1)
bound_in numbers (l.Bound b ∷ lines) profile fits ends = spelled_from numbers b lines profile fits.0 (walked_in outside lines fits.1 ends)
bound_in numbers (l.Walk w ∷ lines) profile fits ends = absurd (cc ends.1)
bound_in numbers (l.Close ∷ lines) profile fits ends = absurd (cc ends.1)
bound_in numbers (l.Place r ∷ lines) profile fits ends = absurd (cc ends.1)
bound_in numbers (l.Instance r ∷ lines) profile fits ends = absurd (cc ends.1)
bound_in numbers (l.Stop ∷ lines) profile fits ends = absurd (cc ends.1)

profile_in : (lines : List Line) → AllByRecursion LineFits lines → Ends (at outside s.Numbers) lines → Spelled (l.Title Two ∷ lines)
profile_in [] fits ends = absurd (cc (not_done ends.0 ends.1 ends.2))
profile_in (l.Title v ∷ lines) fits ends = absurd (cc ends.1)
profile_in (l.Profile ns ∷ lines) fits ends =
    subst Spelled (ap (λ (xs : List Line). xs ++ lines) (head-other ns fits.0.1)) (bound_in ns lines fits.0.0 fits.1 ends)
profile_in (l.Bound b ∷ lines) fits ends = absurd (cc ends.1)
profile_in (l.Walk w ∷ lines) fits ends = absurd (cc ends.1)
profile_in (l.Close ∷ lines) fits ends = absurd (cc ends.1)
profile_in (l.Place r ∷ lines) fits ends = absurd (cc ends.1)
profile_in (l.Instance r ∷ lines) fits ends = absurd (cc ends.1)
profile_in (l.Stop ∷ lines) fits ends = absurd (cc ends.1)

pub spelled_by : (lines : List Line) → AllByRecursion LineFits lines → Ends start lines → Spelled lines
spelled_by [] fits ends = absurd (cc (not_done ends.0 ends.1 ends.2))
spelled_by (l.Title One ∷ lines) fits ends = bound_in profile_one lines one_is_profile fits.1 ends
spelled_by (l.Title Two ∷ lines) fits ends = profile_in lines fits.1 ends
spelled_by (l.Profile ns ∷ lines) fits ends = absurd (cc ends.1)
spelled_by (l.Bound b ∷ lines) fits ends = absurd (cc ends.1)
spelled_by (l.Walk w ∷ lines) fits ends = absurd (cc ends.1)
spelled_by (l.Close ∷ lines) fits ends = absurd (cc ends.1)
spelled_by (l.Place r ∷ lines) fits ends = absurd (cc ends.1)
spelled_by (l.Instance r ∷ lines) fits ends = absurd (cc ends.1)
spelled_by (l.Stop ∷ lines) fits ends = absurd (cc ends.1)

-- ## A certificate's lines follow one another up to the last

head_follows : (numbers : List ℕ) (rest : List Line) → follow_all follows start (head_lines numbers ++ rest) ≡ follow_all follows (at outside s.Bound) rest
head_follows numbers rest = by (is_one numbers)
  where
    by : (b : Bool) → follow_all follows start ((if b then l.Title One ∷ [] else l.Title Two ∷ l.Profile numbers ∷ []) ++ rest) ≡ follow_all follows (at outside s.Bound) rest
    by true = refl
    by false = refl

pub cert_follows : (said : Said) (spelled : CanSpell said) → reached_by (cert_lines said) ≡ Some (at (record { opened = 0; some = spelled.nested.some }) s.Done)
cert_follows said spelled =
    let n : Nest = record { opened = 0; some = spelled.nested.some } in
    head_follows said.numbers _
    ∙ walk_follows outside n said.walk _ spelled.nested.ends
    ∙ places_follow n None said.places _ (ascends_from_sorted (map place_of_row said.places) spelled.places_ascend)
    ∙ tail_follows n (last_or None (map place_of_row said.places)) said.instances (ascends_from_sorted (map header_of_row said.instances) spelled.instances_ascend)

-- ## Its lines fit

walk_fit : (ws : List WalkLine) → AllByRecursion WalkFits ws → AllByRecursion LineFits (map l.Walk ws)
walk_fit [] f = tt
walk_fit (x ∷ ws) f = (f.0, walk_fit ws f.1)

places_fit : (rows : List PlaceRow) → AllByRecursion PlaceFits rows → AllByRecursion LineFits (map l.Place rows)
places_fit [] f = tt
places_fit (r ∷ rows) f = (f.0, places_fit rows f.1)

instances_fit : (rows : List InstanceRow) → AllByRecursion InstanceFits rows → AllByRecursion LineFits (map l.Instance rows)
instances_fit [] f = tt
instances_fit (r ∷ rows) f = (f.0, instances_fit rows f.1)

head_fits : (numbers : List ℕ) → IsProfile numbers → AllByRecursion LineFits (head_lines numbers)
head_fits numbers profile = by (is_one numbers) refl
  where
    by : (b : Bool) → is_one numbers ≡ b → AllByRecursion LineFits (if b then l.Title One ∷ [] else l.Title Two ∷ l.Profile numbers ∷ [])
    by true e = (tt, tt)
    by false e = (tt, ((profile, λ same. true≢false (sym ((bytes_decides numbers profile_one).1 same) ∙ e)), tt))

pub cert_fits : (said : Said) → CanSpell said → AllByRecursion LineFits (cert_lines said)
cert_fits said spelled =
    all_join LineFits (head_lines said.numbers) _ (head_fits said.numbers spelled.profile) (
      spelled.bound,
      all_join LineFits (map l.Walk said.walk) _ (walk_fit said.walk spelled.steps)
          (tt, all_join LineFits (map l.Place said.places) _ (places_fit said.places spelled.places) (all_join LineFits (map l.Instance said.instances) _ (instances_fit said.instances spelled.instances) (tt, tt))),
    )

-- ## One certificate for some lines

abbrev walk_in : Line → Option WalkLine
walk_in (l.Walk w) = Some w
walk_in _ = None

abbrev place_in : Line → Option PlaceRow
place_in (l.Place r) = Some r
place_in _ = None

abbrev instance_in : Line → Option InstanceRow
instance_in (l.Instance r) = Some r
instance_in _ = None

abbrev bound_of : Line → Option ℕ
bound_of (l.Bound b) = Some b
bound_of _ = None

abbrev first_or : {A : Type 0} → A → List A → A
first_or d [] = d
first_or d (x ∷ xs) = x

abbrev numbers_in : List Line → List ℕ
numbers_in (l.Title Two ∷ l.Profile ns ∷ lines) = ns
numbers_in _ = profile_one

module _ {A B : Type 0} (make : A → Line) (pick : Line → Option B) where
  pick_none : ((a : A) → pick (make a) ≡ None) → (xs : List A) (rest : List Line) → filter_map pick (map make xs ++ rest) ≡ filter_map pick rest
  pick_none none [] rest = refl
  pick_none none (x ∷ xs) rest = ap (λ (o : Option B). cons_option o (filter_map pick (map make xs ++ rest))) (none x) ∙ pick_none none xs rest

module _ {A : Type 0} (make : A → Line) (pick : Line → Option A) where
  pick_all : ((a : A) → pick (make a) ≡ Some a) → (xs : List A) (rest : List Line) → filter_map pick (map make xs ++ rest) ≡ xs ++ filter_map pick rest
  pick_all each [] rest = refl
  pick_all each (x ∷ xs) rest = ap (λ (o : Option A). cons_option o (filter_map pick (map make xs ++ rest))) (each x) ∙ ap (λ (ys : List A). x ∷ ys) (pick_all each xs rest)

module _ {B : Type 0} (pick : Line → Option B) (title : (v : _) → pick (l.Title v) ≡ None) (profile : (ns : List ℕ) → pick (l.Profile ns) ≡ None) where
  pick_head : (numbers : List ℕ) (rest : List Line) → filter_map pick (head_lines numbers ++ rest) ≡ filter_map pick rest
  pick_head numbers rest = by (is_one numbers)
    where
      by : (b : Bool) → filter_map pick ((if b then l.Title One ∷ [] else l.Title Two ∷ l.Profile numbers ∷ []) ++ rest) ≡ filter_map pick rest
      by true = ap (λ (o : Option B). cons_option o (filter_map pick rest)) (title One)
      by false = ap₂ (λ (o p : Option B). cons_option o (cons_option p (filter_map pick rest))) (title Two) (profile numbers)

walk_back : (c : Said) → filter_map walk_in (cert_lines c) ≡ c.walk
walk_back c =
    pick_head walk_in (λ v. refl) (λ ns. refl) c.numbers _ ∙ pick_all l.Walk walk_in (λ w. refl) c.walk _
    ∙ ap (λ (xs : List WalkLine). c.walk ++ xs) (pick_none l.Place walk_in (λ r. refl) c.places _ ∙ pick_none l.Instance walk_in (λ r. refl) c.instances _) ∙ append-nil c.walk

places_back : (c : Said) → filter_map place_in (cert_lines c) ≡ c.places
places_back c =
    pick_head place_in (λ v. refl) (λ ns. refl) c.numbers _ ∙ pick_none l.Walk place_in (λ w. refl) c.walk _ ∙ pick_all l.Place place_in (λ r. refl) c.places _
    ∙ ap (λ (xs : List PlaceRow). c.places ++ xs) (pick_none l.Instance place_in (λ r. refl) c.instances _) ∙ append-nil c.places

instances_back : (c : Said) → filter_map instance_in (cert_lines c) ≡ c.instances
instances_back c =
    pick_head instance_in (λ v. refl) (λ ns. refl) c.numbers _ ∙ pick_none l.Walk instance_in (λ w. refl) c.walk _ ∙ pick_none l.Place instance_in (λ r. refl) c.places _
    ∙ pick_all l.Instance instance_in (λ r. refl) c.instances _ ∙ append-nil c.instances

bound_back : (c : Said) → first_or 0 (filter_map bound_of (cert_lines c)) ≡ c.bound
bound_back c = ap (first_or 0) (pick_head bound_of (λ v. refl) (λ ns. refl) c.numbers _)

numbers_back : (c : Said) → numbers_in (cert_lines c) ≡ c.numbers
numbers_back c = by (is_one c.numbers) refl
  where
    by : (b : Bool) → is_one c.numbers ≡ b → numbers_in ((if b then l.Title One ∷ [] else l.Title Two ∷ l.Profile c.numbers ∷ []) ++ l.Bound c.bound ∷ (map l.Walk c.walk ++ l.Close ∷ (map l.Place c.places ++ (map l.Instance c.instances ++ l.Stop ∷ [])))) ≡ c.numbers
    by true e = sym ((bytes_decides c.numbers profile_one).0 e)
    by false e = refl

pub one_said : (c d : Said) → cert_lines c ≡ cert_lines d → c ≡ d
one_said c d e =
    let numbers : c.numbers ≡ d.numbers = sym (numbers_back c) ∙ ap numbers_in e ∙ numbers_back d in
    let bound : c.bound ≡ d.bound = sym (bound_back c) ∙ ap (λ (xs : List Line). first_or 0 (filter_map bound_of xs)) e ∙ bound_back d in
    let walk : c.walk ≡ d.walk = sym (walk_back c) ∙ ap (filter_map walk_in) e ∙ walk_back d in
    let places : c.places ≡ d.places = sym (places_back c) ∙ ap (filter_map place_in) e ∙ places_back d in
    let instances : c.instances ≡ d.instances = sym (instances_back c) ∙ ap (filter_map instance_in) e ∙ instances_back d in
    λ i. record { numbers = numbers i; bound = bound i; walk = walk i; places = places i; instances = instances i }
