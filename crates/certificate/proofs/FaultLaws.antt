-- What a text is where its lines stop following one another.
use Rattle.std.proofs.Common.{◌≡◌, ◌≢◌, ◌∙◌, true, ℕ, zero, suc, List, [], ◌∷◌, ◌++◌, Some, None, Result, Ok, Err, IfOk, IsErrOf, map, take, get_or, refl, sym, ap, subst, arith}
use Rattle.std.specs.List.{AllByRecursion}
use Rattle.std.proofs.lemmas.List.Elements.{All-from_recursion}
use Rattle.asm_text.proofs.WordLaws.{all_join}
use Rattle.bus_ticks.specs.Numbers.{profile_one}
use Rattle.bus_ticks.specs.Ranges.{IsPrice}
use Rattle.control_flow.specs.declared.edges.Label.TheVariants.{Do}
use Rattle.certificate.specs.declared.cert.Cert.{Cert}
use Rattle.certificate.specs.declared.draft.Stage.{Stage}
use Rattle.certificate.specs.declared.draft.Stage.TheVariants as s
use Rattle.certificate.specs.declared.fault.CertFault.{CertFault}
use Rattle.certificate.specs.declared.fault.CertFault.TheVariants as fault
use Rattle.certificate.specs.declared.line.Version.TheVariants.{One}
use Rattle.certificate.specs.declared.line.WalkLine.{WalkLine}
use Rattle.certificate.specs.declared.line.WalkLine.TheVariants.{End, Step}
use Rattle.certificate.specs.declared.line.Line.{Line}
use Rattle.certificate.specs.declared.line.Line.TheVariants as l
use Rattle.certificate.specs.declared.walk.StepLine.{StepLine}
use Rattle.certificate.specs.declared.walk.To.TheVariants.{Exit}
use Rattle.certificate.specs.Faults.{AreFirst, EndsEarly, Follow, GoesOn, HasBadLine, IsRead, Reads, RunsOn, StopsAt, StopsShort}
use Rattle.certificate.specs.Follows.{Reached, follows, reached_by, start}
use Rattle.certificate.specs.Lines.{CanSpell, Said, cert_lines, cert_text, said_by}
use Rattle.certificate.specs.Walk.{Nest, follow_all, nest_after}
use Rattle.certificate.specs.Words.{IsProfile, LineFits, StepFits, ended, text_of}
use Rattle.certificate.proofs.CertLaws.{cert_fits, cert_follows, one_said, spelled_by}
use Rattle.certificate.proofs.FollowLaws.{at, follow-none, follow-on, walk_follows}
use Rattle.certificate.proofs.ParseLaws.{Ends, stops}
use Rattle.certificate.proofs.TextLaws.{begins, next_line, no_line, one_text}

-- ## Lines that end a certificate, from anywhere before its last

pub record Completed (from : Reached) : Type 0 where
  pub next : Line
  pub more : List Line
  pub fit : AllByRecursion LineFits (next ∷ more)
  pub ends : Ends from (next ∷ more)

abbrev some_step : StepLine
some_step = record { address = 0; label = Do; to = Exit; cost = 1 }

step_fits : StepFits some_step
step_fits = record { address = omega arith; to = tt; some = omega arith; cost = omega arith }

abbrev closing : ℕ → List WalkLine
closing zero = []
closing (suc depth) = End ∷ closing depth

closes : (depth : ℕ) → follow_all nest_after (record { opened = depth; some = true }) (closing depth) ≡ Some (record { opened = 0; some = true })
closes zero = refl
closes (suc depth) = closes depth

closing_fits : (depth : ℕ) (rest : List Line) → AllByRecursion LineFits rest → AllByRecursion LineFits (map l.Walk (closing depth) ++ rest)
closing_fits zero rest fit = fit
closing_fits (suc depth) rest fit = (tt, closing_fits depth rest fit)

complete_walk : (n : Nest) → Completed (at n s.Walk)
complete_walk n =
    let rest : List Line = l.Close ∷ l.Stop ∷ [] in
    let full : Nest = record { opened = 0; some = true } in
    record {
      next = l.Walk (Step some_step);
      more = map l.Walk (closing n.opened) ++ rest;
      fit = (step_fits, closing_fits n.opened rest (tt, (tt, tt)));
      ends = (at full s.Done, walk_follows (record { opened = n.opened; some = true }) full (closing n.opened) rest (closes n.opened), refl);
    }

complete_bound : (n : Nest) → Completed (at n s.Bound)
complete_bound n = let c = complete_walk n in record { next = l.Bound 0; more = c.next ∷ c.more; fit = (omega arith, c.fit); ends = c.ends }

-- the numbers of some other profile
abbrev other_numbers : List ℕ
other_numbers = 3 ∷ 1 ∷ 2 ∷ 5 ∷ 4 ∷ 3 ∷ 2 ∷ 8 ∷ 6 ∷ 5 ∷ 10 ∷ 2 ∷ 2 ∷ 1 ∷ 8 ∷ []

other_is_profile : IsProfile other_numbers
other_is_profile = record {
  whole = refl;
  ranges = record { prices = All-from_recursion IsPrice (take 14 other_numbers) (((omega arith, omega arith), ((omega arith, omega arith), ((omega arith, omega arith), ((omega arith, omega arith), ((omega arith, omega arith), ((omega arith, omega arith), ((omega arith, omega arith), ((omega arith, omega arith), ((omega arith, omega arith), ((omega arith, omega arith), ((omega arith, omega arith), ((omega arith, omega arith), ((omega arith, omega arith), ((omega arith, omega arith), tt))))))))))))))); burst = omega arith };
  ordered = record { s_first = omega arith; quad_second = omega arith; n_below = omega arith; rom_below = omega arith; control_below = omega arith };
}

other_differs : other_numbers ≢ profile_one
other_differs e = let three : 3 ≡ 2 = ap (λ (xs : List ℕ). get_or xs 0 0) e in absurd (omega (arith, three))

complete_at : (stage : Stage) (n : Nest) → stage ≢ s.Done → Completed (at n stage)
complete_at s.Title n going = let c = complete_bound n in record { next = l.Title One; more = c.next ∷ c.more; fit = (tt, c.fit); ends = c.ends }
complete_at s.Numbers n going = let c = complete_bound n in record { next = l.Profile other_numbers; more = c.next ∷ c.more; fit = ((other_is_profile, other_differs), c.fit); ends = c.ends }
complete_at s.Bound n going = complete_bound n
complete_at s.Walk n going = complete_walk n
complete_at (s.Places last) n going = record { next = l.Stop; more = []; fit = (tt, tt); ends = (at n s.Done, refl, refl) }
complete_at (s.Instances last) n going = record { next = l.Stop; more = []; fit = (tt, tt); ends = (at n s.Done, refl, refl) }
complete_at s.Done n going = absurd (going refl)

all_after : (xs ys : List Line) → AllByRecursion LineFits (xs ++ ys) → AllByRecursion LineFits ys
all_after [] ys f = f
all_after (x ∷ xs) ys f = all_after xs ys f.1

-- lines that have not reached the last begin a certificate
are_first : (lines : List Line) (to : Reached) → Follow lines to → to.stage ≢ s.Done → AreFirst lines
are_first lines to follow going =
    let c = complete_at to.stage to.nest going in
    let whole = spelled_by (lines ++ c.next ∷ c.more) (all_join LineFits lines (c.next ∷ c.more) follow.fit c.fit) (c.ends.0, follow-on follows start to lines (c.next ∷ c.more) follow.reached ∙ c.ends.1, c.ends.2) in
    record { said = whole.said; spelled = whole.spelled; next = c.next; more = c.more; lines_are = sym whole.lines_are }

-- ## Each fault

-- how a certificate goes on after some lines
on : (said : Said) (spelled : CanSpell said) (lines more : List Line) (to : Reached) → Follow lines to → cert_lines said ≡ lines ++ more → Ends to more
on said spelled lines more to follow is = (
  at (record { opened = 0; some = spelled.nested.some }) s.Done,
  sym (follow-on follows start to lines more follow.reached) ∙ ap reached_by (sym is) ∙ cert_follows said spelled,
  refl,
)

no_misfit : (text : List ℕ) (n : ℕ) → (b : StopsAt text n) → (said : Said) → CanSpell said → (more : List ℕ) → cert_text said ≢ text_of b.lines ++ (ended b.words ++ more)
no_misfit text n b said spelled more e =
    let fits = cert_fits said spelled in
    let front = begins b.lines (cert_lines said) (ended b.words ++ more) b.follow.fit fits e in
    let after = all_after b.lines front.more (subst (AllByRecursion LineFits) front.all_are fits) in
    let next = next_line front.more b.words more after b.within (sym front.rest_is) in
    let fit = (subst (AllByRecursion LineFits) next.more_are after).0 in
    let none : follow_all follows b.to front.more ≡ None = ap (follow_all follows b.to) next.more_are ∙ follow-none follows b.to next.line next.left (b.misfit next.line fit next.words_are) in
    let ends = on said spelled b.lines front.more b.to b.follow front.all_are in
    some_none ends.0 (sym none ∙ ends.1)
  where
    some_none : (r : Reached) → None ≡ Some r → ⊥
    some_none r e = cc e

pub bad_line : (text : List ℕ) (n : ℕ) → StopsAt text n → HasBadLine text n
bad_line text n b = record {
  lines = b.lines;
  words = b.words;
  rest = b.rest;
  text_is = b.text_is;
  within = b.within;
  counted = b.counted;
  first = are_first b.lines b.to b.follow b.going;
  misfit = no_misfit text n b;
}

pub ends_early : (text : List ℕ) → StopsShort text → EndsEarly text
ends_early text b = record { lines = b.lines; rest = b.rest; text_is = b.text_is; within = b.within; first = are_first b.lines b.to b.follow b.going }

pub goes_on : (text : List ℕ) → RunsOn text → GoesOn text
goes_on text b =
    let whole = spelled_by b.lines b.follow.fit (b.to, b.follow.reached, b.done) in
    record { said = whole.said; spelled = whole.spelled; rest = b.rest; some = b.some; text_is = b.text_is ∙ ap (λ (ls : List Line). text_of ls ++ b.rest) whole.lines_are }

pub read_spells : (text : List ℕ) (cert : Cert) → IsRead text cert → CanSpell (said_by cert) × (text ≡ cert_text (said_by cert))
read_spells text cert r =
    let whole = spelled_by (cert_lines (said_by cert)) r.follow.fit (r.to, r.follow.reached, r.done) in
    (subst CanSpell (sym (one_said (said_by cert) whole.said whole.lines_are)) whole.spelled, r.text_is)

-- ## A certificate's text has no fault

pub one_cert : (c d : Said) → CanSpell c → CanSpell d → cert_text c ≡ cert_text d → c ≡ d
one_cert c d f g e = one_said c d (one_text (cert_lines c) (cert_lines d) (cert_fits c f) (cert_fits d g) e)

never_short : (said : Said) → CanSpell said → StopsShort (cert_text said) → ⊥
never_short said spelled b =
    let front = begins b.lines (cert_lines said) b.rest b.follow.fit (cert_fits said spelled) b.text_is in
    let none = no_line front.more b.rest b.within front.rest_is in
    let ends = on said spelled b.lines front.more b.to b.follow front.all_are in
    let last : follow_all follows b.to [] ≡ Some ends.0 = ap (follow_all follows b.to) (sym none) ∙ ends.1 in
    let same : b.to ≡ ends.0 = cc in
    b.going (ap (λ (x : Reached). x.stage) same ∙ ends.2)

never_on : (said : Said) → CanSpell said → RunsOn (cert_text said) → ⊥
never_on said spelled b =
    let front = begins b.lines (cert_lines said) b.rest b.follow.fit (cert_fits said spelled) b.text_is in
    let ends = on said spelled b.lines front.more b.to b.follow front.all_are in
    let there : b.to ≡ at b.to.nest s.Done = ap (λ (x : Stage). at b.to.nest x) b.done in
    let none = stops b.to.nest front.more (subst (λ (r : Reached). Ends r front.more) there ends) in
    b.some (front.rest_is ∙ ap text_of none)

pub only : (r : Result Cert CertFault) (text : List ℕ) → IfOk r (IsRead text) → ((n : ℕ) → IsErrOf r (fault.BadLine n) → StopsAt text n) → (IsErrOf r fault.Truncated → StopsShort text) → (IsErrOf r fault.TrailingBytes → RunsOn text)
    → (said : Said) → CanSpell said → text ≡ cert_text said → Reads said r
only (Ok cert) text found bad short more said spelled e =
    let read = read_spells text cert found in
    one_cert (said_by cert) said read.0 spelled (sym read.1 ∙ e)
only (Err fault.Memory) text found bad short more said spelled e = refl
only (Err (fault.BadLine n)) text found bad short more said spelled e = let b = bad n refl in absurd (no_misfit text n b said spelled b.rest (sym e ∙ b.text_is))
only (Err fault.Truncated) text found bad short more said spelled e = absurd (never_short said spelled (subst StopsShort e (short refl)))
only (Err fault.TrailingBytes) text found bad short more said spelled e = absurd (never_on said spelled (subst RunsOn e (more refl)))
