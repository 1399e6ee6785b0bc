-- What each fault of a text means.
use Rattle.std.specs.Prelude.{◌≡◌, ◌≢◌, ℕ, ◌+◌, List, [], ◌∷◌, ◌++◌, length, Some, None, Result, MatchResult}
use Rattle.std.specs.List.{AllByRecursion}
use Rattle.std.specs.Str.Iter.{LacksByte}
use Rattle.certificate.specs.declared.cert.Cert.{Cert}
use Rattle.certificate.specs.declared.draft.Stage.TheVariants as s
use Rattle.certificate.specs.declared.fault.CertFault.{CertFault}
use Rattle.certificate.specs.declared.fault.CertFault.TheVariants.{Memory}
use Rattle.certificate.specs.declared.line.Line.{Line}
use Rattle.certificate.specs.Follows.{Reached, follows, reached_by}
use Rattle.certificate.specs.Lines.{CanSpell, Said, cert_lines, cert_text, said_by}
use Rattle.certificate.specs.Words.{LineFits, ended, line_words, text_of}

-- ## Of a whole text

-- these are the first lines of a certificate, and further ones follow
pub record AreFirst (lines : List Line) : Type 0 where
  pub said : Said
  pub spelled : CanSpell said
  pub next : Line
  pub more : List Line
  pub lines_are : cert_lines said ≡ lines ++ next ∷ more

-- the first n - 1 lines begin a certificate, and no certificate begins with the first n
pub record HasBadLine (text : List ℕ) (n : ℕ) : Type 0 where
  pub lines : List Line
  pub words : List ℕ
  pub rest : List ℕ
  pub text_is : text ≡ text_of lines ++ (ended words ++ rest)
  pub within : LacksByte 10 words
  pub counted : n ≡ length lines + 1
  pub first : AreFirst lines
  pub misfit : (said : Said) → CanSpell said → (more : List ℕ)
      → cert_text said ≢ text_of lines ++ (ended words ++ more)

-- the text's whole lines begin a certificate, and further ones are missing
pub record EndsEarly (text : List ℕ) : Type 0 where
  pub lines : List Line
  pub rest : List ℕ
  pub text_is : text ≡ text_of lines ++ rest
  pub within : LacksByte 10 rest
  pub first : AreFirst lines

-- bytes follow a whole certificate
pub record GoesOn (text : List ℕ) : Type 0 where
  pub said : Said
  pub spelled : CanSpell said
  pub rest : List ℕ
  pub some : rest ≢ []
  pub text_is : text ≡ cert_text said ++ rest

-- the certificate was read, unless memory ran out
abbrev pub Reads : Said → Result Cert CertFault → Type 0
Reads said r = MatchResult r (λ cert. said_by cert ≡ said) (λ fault. fault ≡ Memory)

-- ## By the lines that follow one another

-- lines that follow one another
pub record Follow (lines : List Line) (to : Reached) : Type 0 where
  pub fit : AllByRecursion LineFits lines
  pub reached : reached_by lines ≡ Some to

-- no line of these words follows
pub record StopsAt (text : List ℕ) (n : ℕ) : Type 0 where
  pub lines : List Line
  pub to : Reached
  pub follow : Follow lines to
  pub going : to.stage ≢ s.Done
  pub words : List ℕ
  pub rest : List ℕ
  pub text_is : text ≡ text_of lines ++ (ended words ++ rest)
  pub within : LacksByte 10 words
  pub counted : n ≡ length lines + 1
  pub misfit : (l : Line) → LineFits l → words ≡ line_words l → follows to l ≡ None

-- no whole line follows
pub record StopsShort (text : List ℕ) : Type 0 where
  pub lines : List Line
  pub to : Reached
  pub follow : Follow lines to
  pub going : to.stage ≢ s.Done
  pub rest : List ℕ
  pub text_is : text ≡ text_of lines ++ rest
  pub within : LacksByte 10 rest

-- the lines of this certificate follow one another up to the last
pub record IsRead (text : List ℕ) (cert : Cert) : Type 0 where
  pub to : Reached
  pub follow : Follow (cert_lines (said_by cert)) to
  pub done : to.stage ≡ s.Done
  pub text_is : text ≡ cert_text (said_by cert)

-- bytes follow the last of some lines
pub record RunsOn (text : List ℕ) : Type 0 where
  pub lines : List Line
  pub to : Reached
  pub follow : Follow lines to
  pub done : to.stage ≡ s.Done
  pub rest : List ℕ
  pub some : rest ≢ []
  pub text_is : text ≡ text_of lines ++ rest
