-- What is read of addresses and words, against what they state and their faults.
use Rattle.std.proofs.Common.{◌≡◌, ℕ, ◌∙◌, IsSomeAnd, List, None, Option, Some, sym}
use Rattle.toml.specs.Data.{Data, Members, string, integer, get_member}
use Rattle.toml_reading.specs.Documents.{name_at}
use Rattle.toml_reading.specs.Lowest.{AtKey, AtKeyOr, IsNamed, NameFault}
use Rattle.toml_reading.specs.Readings.{required}
use Rattle.toml_reading.proofs.AddressLemmas.{integer_judged}
use Rattle.toml_reading.proofs.Following.{refusal_judged}
use Rattle.toml_reading.proofs.LowestLemmas.{Judges, judged_one, optional_judged, required_judged}
use Rattle.toml_reading.proofs.LowestParts.{named_judged, whole_same}
use Rattle.statement.specs.StatementRules.{AddressFault, IsAddress, RequiredFault, TextFault}
use Rattle.image.specs.Labels.{Names}
use Rattle.statement.specs.Statement.{address_at, address_in, address_or, text_address}
use Rattle.statement.specs.StatementFaults.{statement_faults}
use Rattle.statement.proofs.OffsetLemmas.{text_judged}
use Rattle.statement.specs.declared.faults.StatementFault.TheVariants.{WrongKind}

-- ## Addresses

pub address_judged :
    (names : Names) (d : Data)
    → Judges statement_faults (IsAddress names d) (AddressFault names d) (address_at names d)
address_judged names (string text) = text_judged names text
address_judged names (integer z) = integer_judged statement_faults z
address_judged names _ = refusal_judged statement_faults WrongKind

pub address_in_judged :
    (names : Names) (key : List ℕ) (ms : Members)
    → Judges
    statement_faults
    (λ a. AtKey key ms (λ d. IsAddress names d a))
    (RequiredFault key ms (AddressFault names))
    (address_in names key ms)
address_in_judged names key ms =
    required_judged
    statement_faults
    (IsAddress names)
    (AddressFault names)
    (address_at names)
    (address_judged names)
    (get_member key ms)

-- the same where the key may be missing
pub address_or_judged :
    (names : Names) (key : List ℕ) (missing : ℕ) (ms : Members)
    → Judges
    statement_faults
    (λ a. AtKeyOr key ms (a ≡ missing) (λ d. IsAddress names d a))
    (λ f. AtKey key ms (λ d. AddressFault names d f))
    (address_or names key missing ms)
address_or_judged names key missing ms =
    optional_judged
    statement_faults
    (IsAddress names)
    (AddressFault names)
    (address_at names)
    (address_judged names)
    missing
    (get_member key ms)

-- an address is one
pub one_address : (names : Names) (d : Data) (a b : ℕ) → IsAddress names d a → IsAddress names d b → a ≡ b
one_address names (string text) a b h k =
    judged_one statement_faults _ (TextFault names text) (text_address names text) (text_judged names text) a b h k
one_address names (integer z) a b h k = whole_same a b (sym h.0 ∙ k.0)
one_address names _ a b h k = absurd h

-- ## Words

-- the word at a key that must be there
pub word_in_judged :
    {A : Type 0} (named : List ℕ → Option A) (key : List ℕ) (ms : Members)
    → Judges
    statement_faults
    (λ a. AtKey key ms (λ d. IsNamed named d a))
    (RequiredFault key ms (NameFault statement_faults named))
    (required statement_faults (get_member key ms) (name_at statement_faults named))
word_in_judged named key ms =
    required_judged
    statement_faults
    (IsNamed named)
    (NameFault statement_faults named)
    (name_at statement_faults named)
    (named_judged statement_faults named)
    (get_member key ms)

-- what each value gives at most one number, an option gives at most one
pub one_some :
    {X : Type 0} (P : X → ℕ → Type 0)
    → ((x : X) (a b : ℕ) → P x a → P x b → a ≡ b)
    → (o : Option X) (a b : ℕ)
    → IsSomeAnd o (λ x. P x a)
    → IsSomeAnd o (λ x. P x b)
    → a ≡ b
one_some P one None a b h k = absurd h
one_some P one (Some x) a b h k = one x a b h k
