-- What tests of a draft's claims say.
use Rattle.std.proofs.Common.{◌≡◌, ◌∙◌, ℕ, ◌+◌, ◌<◌, ◌≤◌, Bool, true, false, List, [], length, get_or, ◌⊎◌, Some, None, Ok, inl, inr, ⊎_elim, refl, sym, ap, subst, arith}
use Rattle.std.specs.Prelude.{◌&&◌, ◌||◌, ◌==◌, All, if◌then◌else◌, not}
use Rattle.std.specs.BTreeSet.{contains}
use Rattle.std.specs.List.{list_all, list_any}
use Rattle.std.specs.Ordering.{nat_cmp}
use Rattle.std.proofs.lemmas.Bool.{cases_lt, false≢true}
use Rattle.std.proofs.lemmas.List.{get_or_default}
use Rattle.std.proofs.lemmas.List.Elements.{All-map}
use Rattle.std.proofs.lemmas.List.Sums.{AllPass-from_list_all}
use Rattle.bus_ticks.specs.declared.profile.Profile.{Profile}
use Rattle.control_flow.specs.Flow.{Flow}
use Rattle.control_flow.specs.Graph.{IsFlowGraph}
use Rattle.handlers.proofs.HandlerLemmas.{one_ok}
use Rattle.handlers.specs.Priced.{IsProfile}
use Rattle.handlers.specs.Report.{HasLoops}
use Rattle.image.specs.Image.{Words}
use Rattle.image.specs.Labels.{Names, address_of}
use Rattle.known_places.specs.OnTrust.{Justifies, OnTrust}
use Rattle.source_reports.specs.Proved.{ClaimsNothing, ClassFollows, ClassesFollow, CountFollows, CountsFollow, FollowsFromCode, is_bounded_so}
use Rattle.source_reports.specs.Standing.{AreTrusted, HasAll, all_stands, claims_no_class, claims_no_count, claims_nothing, class_stands, count_stands, has_class, has_count, if_claimed, if_counted}
use Rattle.source_reports.specs.declared.proof.Trusted.{Trusted}
use Rattle.sources.specs.File.{File}
use Rattle.sources.specs.Source.{Said, Says, source_of}
use Rattle.sources.specs.declared.read.Source.{Source}
use Rattle.statement.specs.Stated.{Stated, class_at}
use Rattle.statement.specs.Statement.{IsStatement}
use Rattle.text_draft.proofs.TallyLaws.{same_class}
use Rattle.text_draft.specs.Closed.{closed}
use Rattle.text_draft.specs.Draft.{HasGrades}
use Rattle.text_draft.specs.Grounds.{IsGround, by_claim, claims_class, claims_loop, with_claim}
use Rattle.text_draft.specs.Rules.{is_same_class}
use Rattle.text_draft.specs.declared.accesses.FoundAccess.{FoundAccess}
use Rattle.text_draft.specs.declared.drafts.DraftParts.{DraftParts}
use Rattle.text_draft.specs.declared.found_loop.FoundLoop.{FoundLoop}
use Rattle.text_draft.specs.declared.grounds.Claims.{Claims}
use Rattle.text_draft.specs.declared.grounds.Ground.{Ground}
use Rattle.text_draft.specs.declared.grounds.Ground.TheVariants.{Word, Proof, Pattern}

both : (p q : Bool) → (p && q) ≡ true → (p ≡ true) × (q ≡ true)
both true true is = (refl, refl)
both true false is = absurd (false≢true is)
both false q is = absurd (false≢true is)

never_both : (b : Bool) → b ≡ true → not b ≡ true → ⊥
never_both b h k = false≢true (let it : false ≡ true = sym (ap not h) ∙ k in it)

-- ## Sets

either_left : (a b : Bool) → a ≡ true → (a || b) ≡ true
either_left a b is = rw is refl

either_right : (a b : Bool) → b ≡ true → (a || b) ≡ true
either_right true b is = refl
either_right false b is = is

module _ (xs : List ℕ) where
  -- the first so many are in the set
  abbrev pub HasFront : (ℕ → Bool) → ℕ → Type 0
  HasFront has i = (k d : ℕ) → k < i → has (get_or xs k d) ≡ true

  pub front_none : (has : ℕ → Bool) → HasFront has 0
  front_none has k d lt = absurd (omega (arith, lt))

  pub front_more : (old new : ℕ → Bool) (i e : ℕ) → i < length xs → HasFront old i → ((a : ℕ) → new a ≡ (old a || (get_or xs i e == a)))
      → HasFront new (i + 1)
  front_more old new i e lt before put k d le =
      ⊎_elim
      (λ (low : k < i). put (get_or xs k d) ∙ either_left (old (get_or xs k d)) (get_or xs i e == get_or xs k d) (before k d low))
      (λ (high : i ≤ k).
      let at : k ≡ i = omega (arith, le, high) in
      let same : get_or xs i e ≡ get_or xs k d = get_or_default xs i e d lt ∙ ap (λ n. get_or xs n d) (sym at) in
      put (get_or xs k d) ∙ either_right (old (get_or xs k d)) (get_or xs i e == get_or xs k d) (grind (arith, same)))
      (cases_lt k i)

  pub front_all : (has : ℕ → Bool) (i : ℕ) → length xs ≤ i → HasFront has i → HasAll has xs
  front_all has i le front a there =
      let k = there.0 in
      ap has (sym there.2) ∙ front k a (let lt : k < length xs = there.1 in omega (arith, lt, le))

-- ## Claims that stand

module _ (st : Stated) (left : OnTrust) (t : Trusted) (are : AreTrusted left t) where
  class_follows : (e : FoundAccess) → class_stands st t e ≡ true → e.basis ≡ Proof → ClassFollows st left e
  class_follows e is claimed =
      let holds : has_class st t e ≡ true = ap (λ g. if_claimed g (has_class st t e)) (sym claimed) ∙ is in
      let parts = both (is_same_class (class_at st e.at (Some e.base)) e.class) (not (contains nat_cmp t.classes e.at)) holds in
      record {
        stated = same_class (class_at st e.at (Some e.base)) e.class parts.0;
        follows = λ there. never_both (contains nat_cmp t.classes e.at) (are.classes e.at there) parts.1;
      }

  count_follows : (l : FoundLoop) → count_stands st t l ≡ true → (turns : ℕ) → l.turns ≡ Some turns → l.proved ≡ true → CountFollows st left l.header turns
  count_follows l is turns counted claimed =
      let asked : if_counted l.turns (has_count st t l.header) ≡ true =
      ap (λ (b : Bool). if b then if_counted l.turns (has_count st t l.header) else true) (sym claimed) ∙ is in
      let holds : has_count st t l.header turns ≡ true = ap (λ n. if_counted n (has_count st t l.header)) (sym counted) ∙ asked in
      let parts = both (list_any (is_bounded_so l.header turns) st.loops.list) (not (contains nat_cmp t.loops l.header)) holds in
      record {
        stated = parts.0;
        follows = λ there. never_both (contains nat_cmp t.loops l.header) (are.loops l.header there) parts.1;
      }

  pub all_follow : (parts : DraftParts) → all_stands st t parts ≡ true
      → ClassesFollow st left parts.accesses.items × CountsFollow st left parts.counted.items
  all_follow parts is =
      let split = both (list_all (class_stands st t) parts.accesses.items) (list_all (count_stands st t) parts.counted.items) is in
      let classes = AllPass-from_list_all (class_stands st t) parts.accesses.items split.0 in
      let counts = AllPass-from_list_all (count_stands st t) parts.counted.items split.1 in (
        λ k d lt. class_follows (get_or parts.accesses.items k d) (classes k d lt),
        λ k d lt. count_follows (get_or parts.counted.items k d) (counts k d lt),
      )

-- ## No claims

no_class : (e : FoundAccess) → claims_no_class e ≡ true → e.basis ≡ Proof → ⊥
no_class e is claimed = false≢true (ap (λ g. if_claimed g false) (sym claimed) ∙ is)

no_count : (l : FoundLoop) → claims_no_count l ≡ true → (turns : ℕ) → l.turns ≡ Some turns → l.proved ≡ true → ⊥
no_count l is turns counted claimed =
    let asked : if_counted l.turns (λ n. false) ≡ true = ap (λ (b : Bool). if b then if_counted l.turns (λ n. false) else true) (sym claimed) ∙ is in
    false≢true (ap (λ n. if_counted n (λ m. false)) (sym counted) ∙ asked)

pub nothing_claimed : (parts : DraftParts) → claims_nothing parts ≡ true → ClaimsNothing parts
nothing_claimed parts is =
    let split = both (list_all claims_no_class parts.accesses.items) (list_all claims_no_count parts.counted.items) is in
    let classes = AllPass-from_list_all claims_no_class parts.accesses.items split.0 in
    let counts = AllPass-from_list_all claims_no_count parts.counted.items split.1 in
    record {
      classes = λ k d lt. no_class (get_or parts.accesses.items k d) (classes k d lt);
      counts = λ k d lt. no_count (get_or parts.counted.items k d) (counts k d lt);
    }

module _ (words : Words) (claims : Claims) (no_classes : (at : ℕ) → claims_class claims at ≡ false) (no_loops : (header : ℕ) → claims_loop claims header ≡ false) where
  not_claimed : (e : FoundAccess) → IsGround words claims e → e.basis ≡ Proof → ⊥
  not_claimed e (inl h) claimed = absurd (let no : Word ≡ Proof = sym h.0 ∙ claimed in cc no)
  not_claimed e (inr h) claimed =
      let pattern : e.basis ≡ Pattern = h.0 ∙ ap by_claim (no_classes e.at) in
      absurd (let no : Pattern ≡ Proof = sym pattern ∙ claimed in cc no)

  not_counted : (l : FoundLoop) (turns : ℕ) → (with_claim claims l).turns ≡ Some turns → (with_claim claims l).proved ≡ true → ⊥
  not_counted l turns counted claimed = false≢true (sym (no_loops l.header) ∙ claimed)

  pub bare : (parts : DraftParts) → HasGrades words claims parts → ClaimsNothing parts
  bare parts graded = record {
    classes = λ k d lt. not_claimed (get_or parts.accesses.items k d) (graded.accesses_are.grounds k d lt);
    counts =
        subst (All (λ (l : FoundLoop). (turns : ℕ) → l.turns ≡ Some turns → l.proved ≡ true → ⊥)) (sym graded.loops_are)
        (All-map (λ (l : FoundLoop). (turns : ℕ) → l.turns ≡ Some turns → l.proved ≡ true → ⊥) (with_claim claims) parts.loops.loops.items
        (λ k d lt. not_counted (get_or parts.loops.loops.items k d)));
  }

-- ## The code

module _ (source : File) (statement : List ℕ) (profile : Profile) (read : Source) (said : Says source read) (st : Stated) (flow : Flow)
    (loops : HasLoops source statement profile st flow) where
  own_words : loops.graph.words ≡ read.image
  own_words =
      ap (λ (s : Said). s.0) (one_ok (loops.graph.words, loops.graph.names) (read.image, address_of read.labels) (source_of source) loops.graph.source_is said)

  own_names : loops.graph.names ≡ address_of read.labels
  own_names =
      ap (λ (s : Said). s.1) (one_ok (loops.graph.words, loops.graph.names) (read.image, address_of read.labels) (source_of source) loops.graph.source_is said)

  own_graph : IsFlowGraph read.image st profile flow
  own_graph = subst (λ (w : Words). IsFlowGraph w st profile flow) own_words loops.graph.graph_is

  own_statement : IsStatement statement (address_of read.labels) (Ok st)
  own_statement = subst (λ (n : Names). IsStatement statement n (Ok st)) own_names loops.graph.statement_is

  pub priced_graph : IsFlowGraph read.image st flow.profile flow
  priced_graph = subst (λ (p : Profile). IsFlowGraph read.image st p flow) (sym own_graph.profile_is) own_graph

  pub follows : (text : List ℕ) (parts : DraftParts) → statement ≡ closed text → parts.open_left ≡ false → IsProfile None profile → (trusted : OnTrust)
      → Justifies read.image st flow [] trusted → ClassesFollow st trusted parts.accesses.items → CountsFollow st trusted parts.counted.items
      → FollowsFromCode read text parts
  follows text parts is settled first trusted justifies classes counts = record {
    settled = settled;
    stated = st;
    statement_is = subst (λ t. IsStatement t (address_of read.labels) (Ok st)) is own_statement;
    profile = profile;
    profile_is = first;
    flow = flow;
    graph_is = own_graph;
    trusted = trusted;
    justifies = justifies;
    classes = classes;
    counts = counts;
  }
