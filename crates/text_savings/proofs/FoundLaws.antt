-- What is saved at words, and all of it.
use Rattle.std.proofs.Common.{◌≡◌, ◌∙◌, ℕ, List, ◌++◌, Option, ap, subst}
use Rattle.bus_ticks.specs.declared.profile.Profile.{Profile}
use Rattle.control_flow.specs.Flow.{Flow}
use Rattle.control_flow.specs.declared.edges.Edge.{Edge}
use Rattle.image.specs.Image.{Words}
use Rattle.statement.specs.Stated.{Stated}
use Rattle.text_savings.specs.Carried.{times_done}
use Rattle.asm_text.specs.Appended.{Appends}
use Rattle.text_rows.specs.Rows.{AreRows}
use Rattle.text_savings.specs.Savings.{AreFound, IsWordGain, IsWordSaved, leave_saved, saved}
use Rattle.text_savings.specs.declared.gains.Gain.{Gain}
use Rattle.text_savings.specs.declared.saving.Saving.{Saving}
use Rattle.text_savings.specs.declared.saving.Subject.TheVariants.{Word}

pub word_more : (st : Stated) (profile : Profile) (times : ℕ → ℕ) (at word n : ℕ) (gain : Option Gain) (old new : List Saving)
    → n ≡ times at → IsWordGain st profile at word gain → new ≡ old ++ saved (Word at word) n gain
    → Appends (IsWordSaved st profile times (at, word)) old new
word_more st profile times at word n gain old new n_is is adds =
    (saved (Word at word) n gain, (gain, is, ap (λ m. saved (Word at word) m gain) n_is), adds)

pub all_found : (words listed : Words) (st : Stated) (flow : Flow) (profile : Profile) (walk : List Edge) (times : ℕ → ℕ) (at_words new : List Saving)
    → times ≡ times_done flow.edges walk → profile ≡ flow.profile → listed ≡ words → AreRows (IsWordSaved st profile times) listed at_words
    → new ≡ at_words ++ leave_saved st profile → AreFound words st flow walk new
all_found words listed st flow profile walk times at_words new times_is profile_is listed_is each all = record {
  at_words = at_words;
  each =
      subst (λ (t : ℕ → ℕ). AreRows (IsWordSaved st flow.profile t) words at_words) times_is
      (subst (λ (p : Profile). AreRows (IsWordSaved st p times) words at_words) profile_is
      (subst (λ (ws : Words). AreRows (IsWordSaved st profile times) ws at_words) listed_is each));
  all = all ∙ ap (λ (p : Profile). at_words ++ leave_saved st p) profile_is;
}
