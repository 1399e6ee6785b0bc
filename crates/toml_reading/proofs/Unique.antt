-- A text has one answer.
use Rattle.std.proofs.Common.{◌≡◌, List, ℕ, ⊎_elim, sym, ap, ◌∙◌}
use Rattle.std.specs.Prelude.{Some, None}
use Rattle.toml.specs.Data.{Members}
use Rattle.toml_reading.specs.Documents.{IsAnswer, IsDocument, IsNoDocument}
use Rattle.toml_reading.specs.Readings.{Reading}

never_both : (text : List ℕ) (ms : Members) → IsDocument text ms → IsNoDocument text → ⊥
never_both text ms document none =
    let both : Some ms ≡ None = sym document.parsed ∙ none document.utf8 in
    cc

one_document : (text : List ℕ) (ms ns : Members) → IsDocument text ms → IsDocument text ns → ms ≡ ns
one_document text ms ns h k =
    let both : Some ms ≡ Some ns = sym h.parsed ∙ k.parsed in
    cc

pub one_answer : {F A : Type 0} (not_toml : F) (reads : Members → Reading F A) (text : List ℕ) (answer other : Reading F A) → IsAnswer not_toml reads text answer → IsAnswer not_toml reads text other → answer ≡ other
one_answer not_toml reads text answer other h k =
    ⊎_elim
    (λ m. ⊎_elim
    (λ n. m.2 ∙ ap reads (one_document text m.0 n.0 m.1 n.1) ∙ sym n.2)
    (λ none. absurd (never_both text m.0 m.1 none.0))
    k)
    (λ none. ⊎_elim
    (λ n. absurd (never_both text n.0 n.1 none.0))
    (λ same. none.1 ∙ sym same.1)
    k)
    h
