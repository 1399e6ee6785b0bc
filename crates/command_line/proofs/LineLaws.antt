-- From what clap's calls return to what a line asks for.
use Rattle.std.proofs.Common.{◌≡◌, ◌∙◌, ℕ, ◌+◌, ◌^◌, ◌≤◌, Bool, true, false, List, [], ◌∷◌, Option, Some, None, Result, Ok, Err, refl, sym, ap, inl, inr, subst, arith}
use Rattle.std.specs.Prelude.{option_and_then, if◌then◌else◌}
use Rattle.std.specs.Result.{result_ok}
use Rattle.std.specs.Str.Parse.{ExplainsUnsignedError, HasUnsignedDigitsIfOk, ParsesUnsigned, digits_value, without_leading_plus}
use Rattle.std.specs.declared.num.ParseIntError.{ParseIntError}
use Rattle.clap.specs.Walk.{Row, Text}
use Rattle.clap.specs.Simple.{App, is_simple, subcommand_of}
use Rattle.clap.specs.Kinds.{HasKind, IsAmong, Kinds}
use Rattle.clap.specs.Faults.{fault_of, is_simple_and_free}
use Rattle.clap.specs.Matches.{ReadsOne}
use Rattle.clap.specs.Values.{kind_of}
use Rattle.clap.specs.ValueTests.{is_unsigned_in}
use Rattle.clap.specs.declared.builder.value_parser.ValueParser.TheVariants as parser
use Rattle.clap.specs.declared.error.Error.{Error}
use Rattle.clap.specs.declared.error.kind.ErrorKind.TheVariants.{OutOfMemory}
use Rattle.clap.specs.declared.error.kind.ErrorKind.{ErrorKind}
use Rattle.clap.proofs.ValueTestLemmas.{accepts-Accepts, Accepts-accepts}
use Rattle.command_line.specs.Line.{Asked, arcwcet_command, asked, asked_by, asks_version, no_numbers, number_to, plainly, unless_refused}
use Rattle.command_line.specs.declared.line.Command.TheVariants as command

shut : (kinds : Kinds) (x : Option Asked) (k : ErrorKind) → IsAmong k kinds → unless_refused kinds x ≡ None
shut [] x k among = absurd among
shut (y ∷ kinds) x k among = refl

-- by a test that is false or true
second_of : (b : Bool) (x y : Option Asked) → b ≡ false → (if b then x else y) ≡ y
second_of false x y is = refl
second_of true x y is = absurd (cc is)

first_of_two : (b : Bool) (x y : Option Asked) → b ≡ true → (if b then x else y) ≡ x
first_of_two true x y is = refl
first_of_two false x y is = absurd (cc is)

by_clap : List Text → Option Asked
by_clap words = unless_refused (fault_of arcwcet_command words) (option_and_then asked_by (subcommand_of arcwcet_command words))

pub version_asked : (words : List Text) → asks_version words ≡ true → asked words ≡ Some (plainly command.Version no_numbers)
unfolding asked
version_asked words is = first_of_two (asks_version words) (Some (plainly command.Version no_numbers)) _ is

module _ (words : List Text) (plain : asks_version words ≡ false) where
  as_clap_says : asked words ≡ by_clap words
  unfolding asked by_clap
  as_clap_says = second_of (asks_version words) (Some (plainly command.Version no_numbers)) _ plain

  -- an error of clap's asks for nothing
  asked_refused : (k : ErrorKind) → IsAmong k (fault_of arcwcet_command words) → asked words ≡ None
  unfolding by_clap
  asked_refused k among = as_clap_says ∙ shut (fault_of arcwcet_command words) (option_and_then asked_by (subcommand_of arcwcet_command words)) k among

  -- matches ask what their subcommand asks
  asked_read : (o : Option (Text × List Row)) → fault_of arcwcet_command words ≡ [] → o ≡ subcommand_of arcwcet_command words → asked words ≡ option_and_then asked_by o
  unfolding by_clap
  asked_read o none is =
      as_clap_says ∙ ap (λ (ks : Kinds). unless_refused ks (option_and_then asked_by (subcommand_of arcwcet_command words))) none ∙ ap (option_and_then asked_by) (sym is)

  -- the same, of clap's clauses over a command that is the program's
  pub asked_of_matches : (app : App) (o : Option (Text × List Row)) → app ≡ arcwcet_command
      → (is_simple_and_free app ≡ true → fault_of app words ≡ []) → (is_simple app ≡ true → o ≡ subcommand_of app words)
      → asked words ≡ option_and_then asked_by o
  asked_of_matches app o is kinds rows =
      asked_read o
      (subst (λ (a : App). fault_of a words ≡ []) is (kinds (ap is_simple_and_free is)))
      (subst (λ (a : App). o ≡ subcommand_of a words) is (rows (ap is_simple is)))

  pub asked_of_error : (app : App) (e : Error) → app ≡ arcwcet_command
      → (is_simple_and_free app ≡ true → HasKind (fault_of app words) e) → (kind_of e ≡ OutOfMemory → ⊥) → asked words ≡ None
  asked_of_error app e is kinds other =
      elim (subst (λ (a : App). HasKind (fault_of a words) e) is (kinds (ap is_simple_and_free is))) [
        | inl memory ↦ absurd (other memory)
        | inr among ↦ asked_refused (kind_of e) among
      ]

number_or_none : Text → Bool → Option ℕ
number_or_none t fits = if fits then Some (digits_value 10 (without_leading_plus t)) else None

module _ (bits most : ℕ) (whole : most + 1 ≡ 2 ^ bits) (few : 2 ^ bits ≤ 2 ^ 64) where
  -- a type of so many bits, whose greatest number is this, reads a text as the number that it writes
  number_parsed : {E : Type 0} (t : Text) (r : Result ℕ E) → ParsesUnsigned bits 10 t r → result_ok r ≡ number_to most t
  unfolding number_or_none
  number_parsed t (Ok n) h =
      let fits = Accepts-accepts false (parser.Unsigned 0 most) t (h.0.0, omega (arith, h.0.1), omega arith, omega (arith, h.0.1)) in
      ap (λ (k : ℕ). Some k) h.1 ∙ sym (ap (number_or_none t) fits)
  number_parsed t (Err e) h = go (is_unsigned_in 0 most t) refl
    where
      go : (fits : Bool) → is_unsigned_in 0 most t ≡ fits → None ≡ number_or_none t fits
      go false is = refl
      go true is =
          let fits = accepts-Accepts false (parser.Unsigned 0 most) t is in
          absurd (h (fits.0, omega (arith, fits.3)))

  -- what the type says of a text that it reads
  abbrev pub Reads : Text → Result ℕ ParseIntError → Type 0
  Reads t r = ParsesUnsigned bits 10 t r × ExplainsUnsignedError 10 t r × HasUnsignedDigitsIfOk t r

  -- what `get_one` returns is the number that the text writes
  pub number_read : (o : Option Text) (r : Option ℕ) → (o ≡ None → r ≡ None) → ((t : Text) → o ≡ Some t → ReadsOne Reads t r)
      → r ≡ option_and_then (number_to most) o
  number_read None r none value = none refl
  number_read (Some t) (Some n) none value = number_parsed {E = ParseIntError} t (Ok n) (value t refl).0
  number_read (Some t) None none value =
      let failed = value t refl in
      number_parsed t (Err failed.0) failed.1.0
