-- The lines of a source, one after the other.
use Rattle.std.proofs.Common.{◌≡◌, ◌+◌, inl, inr, ℕ, List, [], ◌∷◌, ◌++◌, append_assoc, map, Result, Ok, refl, sym, ap, subst, ◌∙◌, Err}
use Rattle.asm_text.specs.Source.{lines_of}
use Rattle.std.specs.Prelude.{IfOk, IfErr, OnOk, Bool, true, false, ◌||◌}
use Rattle.std.proofs.lemmas.List.{append-nil}
use Rattle.asm_text.proofs.WordLaws.{same_Ok}
use Rattle.objasm.specs.declared.source.DialectFault.{DialectFault}
use Rattle.objasm.specs.declared.source.DialectFault.TheVariants as dialect
use Rattle.objasm.specs.declared.maps.Pass.{Pass}
use Rattle.objasm.specs.declared.source.PlainSource.{PlainSource}
use Rattle.objasm.specs.Conditions.{Conditions, all_closed, conditions_after, is_hidden}
use Rattle.objasm.specs.Names.{Meanings, Told, and_then, mapped}
use Rattle.objasm.specs.Literals.{Pool, line_text, no_pool}
use Rattle.objasm.specs.Parts.{Part}
use Rattle.objasm.specs.Source.{FaultedAt, Flow, Given, Plain, Shown, State, assembled_line, at_line, end_given, ends, fault_at, given_if, is_ltorg_line, line_given, line_settled, line_shown, lines_behind, no_lines, nothing_waits}
use Rattle.objasm.specs.Source.{plain_lines, plain_of, pool_lines, settings, shown, state_in, taken_line, with_conditions, with_lines}
use Rattle.objasm.specs.declared.faults.LineFault.{LineFault}
use Rattle.objasm.specs.declared.faults.LineFault.TheVariants.{Memory}

-- what a line's fault says of the whole
pub told_at : {A B : Type 0} (fault : LineFault) (n : ℕ) (r : Result A LineFault) (f : A → Result B (LineFault × ℕ)) (whole : Result B (LineFault × ℕ)) → Told fault r → at_line n r f ≡ whole
    → FaultedAt (fault_at fault n) whole
told_at Memory n r f whole told is = tt
told_at {A} {B} fault n r f whole (inl e) is = absurd cc
told_at {A} {B} fault n r f whole (inr e) is = sym is ∙ ap (λ (q : Result A LineFault). at_line n q f) e

settings_more : (k : Pass) (f : Flow) (n : ℕ) (rest line after : List ℕ) → lines_of rest ≡ line ∷ lines_of after → ends f.conditions line ≡ false
    → settings k f n (lines_of rest) ≡ at_line n (line_settled k f n line) (λ more. settings k more (n + 1) (lines_of after))
unfolding settings
settings_more k f n rest line after is goes = rw (is, goes) refl

pub settings_go : (k : Pass) (f more : Flow) (n : ℕ) (rest line after : List ℕ) (whole : Result Meanings (LineFault × ℕ)) → lines_of rest ≡ line ∷ lines_of after → ends f.conditions line ≡ false
    → line_settled k f n line ≡ Ok more → settings k f n (lines_of rest) ≡ whole → settings k more (n + 1) (lines_of after) ≡ whole
settings_go k f more n rest line after whole is goes set before =
    ap (λ (q : Result Flow LineFault). at_line n q (λ t. settings k t (n + 1) (lines_of after))) (sym set) ∙ sym (settings_more k f n rest line after is goes) ∙ before

pub settings_stop : (k : Pass) (f : Flow) (n : ℕ) (rest line after : List ℕ) (fault : LineFault) (whole : Result Meanings (LineFault × ℕ)) → lines_of rest ≡ line ∷ lines_of after → ends f.conditions line ≡ false
    → Told fault (line_settled k f n line) → settings k f n (lines_of rest) ≡ whole → FaultedAt (fault_at fault n) whole
settings_stop k f n rest line after fault whole is goes told before =
    told_at fault n (line_settled k f n line) (λ t. settings k t (n + 1) (lines_of after)) whole told (sym (settings_more k f n rest line after is goes) ∙ before)

pub settings_at_end : (k : Pass) (f : Flow) (n : ℕ) (rest line after : List ℕ) (whole : Result Meanings (LineFault × ℕ)) → lines_of rest ≡ line ∷ lines_of after → ends f.conditions line ≡ true
    → settings k f n (lines_of rest) ≡ whole → whole ≡ all_closed f.conditions f.names
unfolding settings
settings_at_end k f n rest line after whole is here before =
    let there : settings k f n (lines_of rest) ≡ all_closed f.conditions f.names = rw (is, here) refl in
    sym before ∙ there

pub settings_end : (k : Pass) (f : Flow) (n : ℕ) (rest : List ℕ) (whole : Result Meanings (LineFault × ℕ)) → lines_of rest ≡ [] → settings k f n (lines_of rest) ≡ whole → whole ≡ all_closed f.conditions f.names
unfolding settings
settings_end k f n rest whole is before = sym before ∙ ap (λ (ls : List (List ℕ)). settings k f n ls) is

-- what is said of the end is said of the whole
pub ended_ok : {A : Type 0} (r : Result A DialectFault) (cs : Conditions) (m : Meanings) (whole : Result Meanings (LineFault × ℕ)) → OnOk r ((k : Meanings) → all_closed cs k ≡ Ok k)
    → whole ≡ all_closed cs m → OnOk r (whole ≡ Ok m)
ended_ok (Ok a) cs m whole closed is = is ∙ closed m
ended_ok (Err fault) cs m whole closed is = tt

pub ended_fault : {A : Type 0} (r : Result A DialectFault) (cs : Conditions) (m : Meanings) (whole : Result Meanings (LineFault × ℕ)) → IfErr r (λ fault. (k : Meanings) → FaultedAt fault (all_closed cs k))
    → whole ≡ all_closed cs m → IfErr r (λ fault. FaultedAt fault whole)
ended_fault (Ok a) cs m whole told is = tt
ended_fault (Err fault) cs m whole told is = subst (λ (q : Result Meanings (LineFault × ℕ)). FaultedAt fault q) (sym is) (told m)

-- lines behind those that are there
abbrev pub after : Plain → Result Plain (LineFault × ℕ) → Result Plain (LineFault × ℕ)
after done r = mapped (with_lines done) r

pub after_start : (done : Plain) (r : Result Plain (LineFault × ℕ)) → done.text ≡ [] → done.origins ≡ [] → after done r ≡ r
after_start done (Ok p) text origins = rw (text, origins) refl
after_start done (Err fault) text origins = refl

lines_more : (ended below : Bool) (m : Meanings) (s : State) (n : ℕ) (rest line after : List ℕ) → lines_of rest ≡ line ∷ lines_of after → below ≡ (ended || ends s.conditions line)
    → plain_lines ended m s n (lines_of rest) ≡ at_line n (line_shown below m s n line) (λ r. mapped (with_lines r.1) (plain_lines below m r.0 (n + 1) (lines_of after)))
unfolding plain_lines
lines_more ended below m s n rest line after is now = rw (is, now) refl

pub behind_both : (a b c : Plain) → with_lines a (with_lines b c) ≡ with_lines (with_lines a b) c
behind_both a b c = rw (append_assoc a.text b.text c.text, append_assoc a.origins b.origins c.origins) refl

one_more : (done more t : Plain) (r : Result Plain (LineFault × ℕ)) → more ≡ with_lines done t → after done (mapped (with_lines t) r) ≡ after more r
one_more done more t (Ok p) is = ap (λ (x : Plain). Ok x) (behind_both done t p ∙ ap (λ (x : Plain). with_lines x p) (sym is))
one_more done more t (Err fault) is = refl

line_more : (n : ℕ) (done more : Plain) (next : State) (line : Shown) (g : State → Result Plain (LineFault × ℕ)) → lines_behind done line ≡ Ok (next, more)
    → after done (at_line n line (λ r. mapped (with_lines r.1) (g r.0))) ≡ after more (g next)
line_more n done more next (Ok s) g put =
    let same = same_Ok (s.0, with_lines done s.1) (next, more) put in
    one_more done more s.1 (g s.0) (sym (ap (λ (p : State × Plain). p.1) same))
    ∙ ap (λ (p : State × Plain). after more (g p.0)) same
line_more n done more next (Err fault) g put = absurd cc

pub lines_go : (ended below : Bool) (m : Meanings) (s next : State) (n : ℕ) (done more : Plain) (rest line behind : List ℕ) (whole : Result Plain (LineFault × ℕ)) → lines_of rest ≡ line ∷ lines_of behind
    → below ≡ (ended || ends s.conditions line) → lines_behind done (line_shown below m s n line) ≡ Ok (next, more)
    → after done (plain_lines ended m s n (lines_of rest)) ≡ whole → after more (plain_lines below m next (n + 1) (lines_of behind)) ≡ whole
lines_go ended below m s next n done more rest line behind whole is now put before =
    sym (line_more n done more next (line_shown below m s n line) (λ t. plain_lines below m t (n + 1) (lines_of behind)) put)
    ∙ sym (ap (after done) (lines_more ended below m s n rest line behind is now))
    ∙ before

faulted_after : (done : Plain) (fault : DialectFault) (r whole : Result Plain (LineFault × ℕ)) → FaultedAt fault r → after done r ≡ whole → FaultedAt fault whole
faulted_after done dialect.Memory r whole told is = tt
faulted_after done (dialect.Line fault n) r whole told is = sym is ∙ ap (after done) told

pub lines_stop : (ended below : Bool) (m : Meanings) (s : State) (n : ℕ) (done : Plain) (rest line next : List ℕ) (fault : LineFault) (whole : Result Plain (LineFault × ℕ)) → lines_of rest ≡ line ∷ lines_of next
    → below ≡ (ended || ends s.conditions line) → Told fault (line_shown below m s n line) → after done (plain_lines ended m s n (lines_of rest)) ≡ whole → FaultedAt (fault_at fault n) whole
lines_stop ended below m s n done rest line next fault whole is now told before =
    let here = told_at fault n (line_shown below m s n line) (λ r. mapped (with_lines r.1) (plain_lines below m r.0 (n + 1) (lines_of next))) (plain_lines ended m s n (lines_of rest)) told (sym (lines_more ended below m s n rest line next is now)) in
    faulted_after done (fault_at fault n) (plain_lines ended m s n (lines_of rest)) whole here before

pub lines_end : (ended : Bool) (m : Meanings) (s : State) (n : ℕ) (done : Plain) (rest : List ℕ) (whole : Result Plain (LineFault × ℕ)) → lines_of rest ≡ [] → after done (plain_lines ended m s n (lines_of rest)) ≡ whole
    → whole ≡ after done (nothing_waits s.pool.first no_lines)
unfolding plain_lines
lines_end ended m s n done rest whole is before = sym before ∙ ap (λ (ls : List (List ℕ)). after done (plain_lines ended m s n ls)) is

-- what is said of the words that wait is said of the whole
pub given_ok : (r : Result PlainSource DialectFault) (done : Plain) (waits whole : Result Plain (LineFault × ℕ)) → IfOk r (λ p. after done waits ≡ Ok (plain_of p)) → whole ≡ after done waits
    → IfOk r (λ p. whole ≡ Ok (plain_of p))
given_ok (Ok p) done waits whole put is = is ∙ put
given_ok (Err fault) done waits whole put is = tt

pub given_fault : (r : Result PlainSource DialectFault) (done : Plain) (waits whole : Result Plain (LineFault × ℕ)) → IfErr r (λ fault. FaultedAt fault waits) → whole ≡ after done waits
    → IfErr r (λ fault. FaultedAt fault whole)
given_fault (Ok p) done waits whole told is = tt
given_fault (Err fault) done waits whole told is = faulted_after done fault waits whole told (sym is)

-- ## A line

given_behind : (gives : Bool) (n : ℕ) (p : Pool) (done t : Plain) → given_if gives n p (with_lines done t) ≡ ((given_if gives n p t).0, with_lines done (given_if gives n p t).1)
given_behind true n p done t = ap (λ (x : Plain). (no_pool, x)) (sym (behind_both done t (pool_lines n p)))
given_behind false n p done t = refl

pub assembled : (m : Meanings) (n : ℕ) (p mid new : Pool) (ps : List Part) (line text put_text : List ℕ) (done shown_there out : Plain) (gives : Bool) → line_text m n p ps ≡ Ok (mid, text)
    → put_text ≡ text → shown_there ≡ with_lines done (shown n put_text line) → gives ≡ is_ltorg_line ps → (new, out) ≡ given_if gives n mid shown_there → lines_behind done (assembled_line m n p ps line) ≡ Ok (new, out)
assembled m n p mid new ps line text put_text done shown_there out gives is same put by given =
    ap (λ (r : Result (Pool × List ℕ) LineFault). lines_behind done (mapped (λ q. given_if (is_ltorg_line ps) n q.0 (shown n q.1 line)) r)) is
    ∙ ap (λ (x : Pool × Plain). Ok x)
    (sym (given_behind (is_ltorg_line ps) n mid done (shown n text line)) ∙ ap (λ (x : List ℕ). given_if (is_ltorg_line ps) n mid (with_lines done (shown n x line))) (sym same)
    ∙ ap (λ (x : Plain). given_if (is_ltorg_line ps) n mid x) (sym put)
    ∙ ap (λ (b : Bool). given_if b n mid shown_there) (sym by) ∙ sym given)

pub ended : (n : ℕ) (p new : Pool) (line : List ℕ) (done mid out : Plain) → mid ≡ with_lines done (shown n [] line) → (new, out) ≡ given_if true n p mid → lines_behind done (end_given n p line) ≡ Ok (new, out)
ended n p new line done mid out put given =
    ap (λ (x : Pool × Plain). Ok x) (sym (given_behind true n p done (shown n [] line)) ∙ ap (λ (x : Plain). given_if true n p x) (sym put) ∙ sym given)

pub behind_conditions : (cs : Conditions) (p : Pool) (done out : Plain) (r : Given) → lines_behind done r ≡ Ok (p, out) → lines_behind done (with_conditions cs r) ≡ Ok (state_in cs p, out)
behind_conditions cs p done out (Ok g) is = ap (λ (x : Pool × Plain). Ok (state_in cs x.0, x.1)) (same_Ok (g.0, with_lines done g.1) (p, out) is)
behind_conditions cs p done out (Err fault) is = absurd cc

pub taken : (m : Meanings) (s : State) (n : ℕ) (ps : List Part) (line : List ℕ) (done out : Plain) (next : Conditions) (p : Pool) (hidden : Bool) → hidden ≡ is_hidden s.conditions ps
    → conditions_after m n s.conditions ps ≡ Ok next → lines_behind done (line_given hidden m n s.pool ps line) ≡ Ok (p, out) → lines_behind done (taken_line m s n ps line) ≡ Ok (state_in next p, out)
taken m s n ps line done out next p hidden by step put =
    ap (λ (r : Result Conditions LineFault). lines_behind done (and_then (λ cs. with_conditions cs (line_given (is_hidden s.conditions ps) m n s.pool ps line)) r)) step
    ∙ ap (λ (b : Bool). lines_behind done (with_conditions next (line_given b m n s.pool ps line))) (sym by)
    ∙ behind_conditions next p done out (line_given hidden m n s.pool ps line) put

pub taken_ok : {A : Type 0} (r : Result A LineFault) (m : Meanings) (s : State) (n : ℕ) (ps asked stepped given : List Part) (line : List ℕ) (done out : Plain) (next : Conditions) (p : Pool) → asked ≡ ps → stepped ≡ ps → given ≡ ps
    → false ≡ is_hidden s.conditions asked → conditions_after m n s.conditions stepped ≡ Ok next → OnOk r (lines_behind done (assembled_line m n s.pool given line) ≡ Ok (p, out))
    → OnOk r (lines_behind done (taken_line m s n ps line) ≡ Ok (state_in next p, out))
taken_ok (Ok a) m s n ps asked stepped given line done out next p same_asked same_stepped same_given shows step put =
    taken m s n ps line done out next p false (shows ∙ ap (is_hidden s.conditions) same_asked)
    (ap (λ (x : List Part). conditions_after m n s.conditions x) (sym same_stepped) ∙ step)
    (ap (λ (x : List Part). lines_behind done (assembled_line m n s.pool x line)) (sym same_given) ∙ put)
taken_ok (Err fault) m s n ps asked stepped given line done out next p same_asked same_stepped same_given shows step put = tt

pub step_told : (m : Meanings) (s : State) (n : ℕ) (ps : List Part) (line : List ℕ) (fault : LineFault) → Told fault (conditions_after m n s.conditions ps) → Told fault (taken_line m s n ps line)
step_told m s n ps line fault (inl e) = inl e
step_told m s n ps line fault (inr e) = inr (ap (λ (r : Result Conditions LineFault). and_then (λ cs. with_conditions cs (line_given (is_hidden s.conditions ps) m n s.pool ps line)) r) e)

pub taken_told : (m : Meanings) (s : State) (n : ℕ) (ps : List Part) (line : List ℕ) (fault : LineFault) (next : Conditions) (hidden : Bool) → hidden ≡ is_hidden s.conditions ps
    → conditions_after m n s.conditions ps ≡ Ok next → Told fault (line_given hidden m n s.pool ps line) → Told fault (taken_line m s n ps line)
taken_told m s n ps line fault next hidden by step (inl e) = inl e
taken_told m s n ps line fault next hidden by step (inr e) =
    inr
    (ap (λ (r : Result Conditions LineFault). and_then (λ cs. with_conditions cs (line_given (is_hidden s.conditions ps) m n s.pool ps line)) r) step
    ∙ ap (λ (b : Bool). with_conditions next (line_given b m n s.pool ps line)) (sym by)
    ∙ ap (λ (r : Given). with_conditions next r) e)

-- ## The numbers of lines of a text

pub numbers_go : (n : ℕ) (old new : List ℕ) (rest line after : List ℕ) (whole : List ℕ) → lines_of rest ≡ line ∷ lines_of after → new ≡ old ++ n ∷ []
    → old ++ map (λ _. n) (lines_of rest) ≡ whole → new ++ map (λ _. n) (lines_of after) ≡ whole
numbers_go n old new rest line after whole is put before =
    ap (λ (x : List ℕ). x ++ map (λ _. n) (lines_of after)) put ∙ append_assoc old (n ∷ []) (map (λ _. n) (lines_of after))
    ∙ ap (λ (ls : List (List ℕ)). old ++ map (λ _. n) ls) (sym is) ∙ before

pub numbers_end : (n : ℕ) (old : List ℕ) (rest : List ℕ) (whole : List ℕ) → lines_of rest ≡ [] → old ++ map (λ _. n) (lines_of rest) ≡ whole → old ≡ whole
numbers_end n old rest whole is before =
    sym (append-nil old) ∙ ap (λ (ls : List (List ℕ)). old ++ map (λ _. n) ls) (sym is) ∙ before

abbrev pub lines_in : (text origins : List ℕ) → Plain
lines_in text origins = record { text = text; origins = origins }

pub pool_put : {A E : Type 0} (r : Result A E) (n : ℕ) (p : Pool) (old : Plain) (text origins put numbered : List ℕ) → put ≡ p.lines → numbered ≡ p.lines → text ≡ old.text ++ put
    → OnOk r (origins ≡ old.origins ++ map (λ _. n) (lines_of numbered)) → OnOk r (lines_in text origins ≡ with_lines old (pool_lines n p))
pool_put (Ok a) n p old text origins put numbered same_put same_numbered is numbers =
    ap (λ (x : List ℕ). lines_in x origins) (is ∙ ap (λ (x : List ℕ). old.text ++ x) same_put)
    ∙ ap (λ (x : List ℕ). lines_in (old.text ++ p.lines) x) (numbers ∙ ap (λ (x : List ℕ). old.origins ++ map (λ _. n) (lines_of x)) same_numbered)
pool_put (Err fault) n p old text origins put numbered same_put same_numbered is numbers = tt
