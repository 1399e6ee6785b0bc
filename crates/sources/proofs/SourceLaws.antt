-- What reading a source answers.
use Rattle.std.proofs.Common.{◌≡◌, ◌∙◌, ◌⊎◌, ℕ, Bool, true, false, List, Result, Ok, Err, ap, cond, inl, inr, subst, sym}
use Rattle.std.specs.Prelude.{IfErr}
use Rattle.std.specs.Result.{IsErrAnd}
use Rattle.image.specs.Image.{Words}
use Rattle.image.specs.ImageBytes.{image_read, is_image}
use Rattle.image.specs.declared.reading.ReadFault.{ReadFault}
use Rattle.image.specs.declared.reading.ReadFault.TheVariants as read_fault
use Rattle.image.specs.Labels.{Names, no_names}
use Rattle.assembler.specs.Sweeps.{assembled}
use Rattle.assembler.specs.Views.{FaultedAt}
use Rattle.assembler.specs.declared.fault.LineFault.{LineFault}
use Rattle.assembler.specs.declared.fault.AsmFault.{AsmFault}
use Rattle.assembler.specs.declared.fault.AsmFault.TheVariants as asm_fault
use Rattle.objasm.specs.Source.{FaultedAt as IsUntranslated}
use Rattle.objasm.specs.declared.faults.LineFault.{LineFault as ObjasmFault}
use Rattle.objasm.specs.declared.faults.LineFault.TheVariants.{Scattered}
use Rattle.objasm.specs.declared.source.DialectFault.{DialectFault}
use Rattle.objasm.specs.declared.source.DialectFault.TheVariants as dialect_fault
use Rattle.sources.specs.Dialect.{InGrammar, in_grammar, places_of, text_of}
use Rattle.sources.specs.File.{File}
use Rattle.sources.specs.Origins.{Stretch, scattered_at}
use Rattle.sources.specs.Source.{IsFaultIn, IsFaultOf, Said, if_side_by_side, of_dialect, of_image, of_text, said_by_image, said_by_plain, said_by_text, source_of}
use Rattle.sources.specs.declared.fault.SourceFault.{SourceFault}
use Rattle.sources.specs.declared.fault.SourceFault.TheVariants.{Dialect}

said_image : (source : File) → is_image source.bytes ≡ true → source_of source ≡ said_by_image (image_read source.bytes)
unfolding source_of
said_image source is = ap (λ (b : Bool). cond b (said_by_image (image_read source.bytes)) (said_by_plain (in_grammar source))) is

pub said_plain : (source : File) → is_image source.bytes ≡ false → source_of source ≡ said_by_plain (in_grammar source)
unfolding source_of
said_plain source is = ap (λ (b : Bool). cond b (said_by_image (image_read source.bytes)) (said_by_plain (in_grammar source))) is

said_text : (source : File) (text : InGrammar) → is_image source.bytes ≡ false → in_grammar source ≡ Ok text → source_of source ≡ said_by_plain (Ok text)
said_text source text is by = said_plain source is ∙ ap said_by_plain by

pub image_said : (source : File) (words : Words) (names : Names) → is_image source.bytes ≡ true → image_read source.bytes ≡ Ok words → names ≡ no_names → source_of source ≡ Ok (words, names)
image_said source words names is read none = said_image source is ∙ ap said_by_image read ∙ ap (λ (n : Names). Ok (words, n)) (sym none)

pub text_said : (source : File) (text : InGrammar) (words : Words) (names : Names) (places : List Stretch) → is_image source.bytes ≡ false → in_grammar source ≡ Ok text
    → assembled (text_of text) ≡ Ok (words, names) → places_of text ≡ Ok places → source_of source ≡ Ok (words, names)
text_said source text words names places is by read there =
    said_text source text is by ∙ ap (said_by_text text) read ∙ ap (λ (r : Result (List Stretch) ℕ). if_side_by_side r (words, names)) there

read_of_said : (r : Result Words ReadFault) (words : Words) (names : Names) → said_by_image r ≡ Ok (words, names) → r ≡ Ok words
read_of_said (Ok read) words names e = let same : ◌≡◌ {A = Words × Names} (read, no_names) (words, names) = cc in ap (λ x. Ok x.0) same
read_of_said (Err fault) words names e = absurd cc

pub image_was_read : (source : File) (words : Words) (names : Names) → is_image source.bytes ≡ true → source_of source ≡ Ok (words, names) → image_read source.bytes ≡ Ok words
image_was_read source words names is said = read_of_said (image_read source.bytes) words names (sym (said_image source is) ∙ said)

if_placed : (r : Result (List Stretch) ℕ) (all said : Said) → if_side_by_side r all ≡ Ok said → all ≡ said
if_placed (Ok places) all said e = cc
if_placed (Err number) all said e = absurd cc

assembled_of_said : (text : InGrammar) (r : Result Said (LineFault × ℕ)) (words : Words) (names : Names) → said_by_text text r ≡ Ok (words, names) → r ≡ Ok (words, names)
assembled_of_said text (Ok said) words names e = ap (λ x. Ok x) (if_placed (places_of text) said (words, names) e)
assembled_of_said text (Err fault) words names e = absurd cc

pub text_was_assembled : (source : File) (text : InGrammar) (words : Words) (names : Names) → is_image source.bytes ≡ false → in_grammar source ≡ Ok text → source_of source ≡ Ok (words, names)
    → assembled (text_of text) ≡ Ok (words, names)
text_was_assembled source text words names is by said = assembled_of_said text (assembled (text_of text)) words names (sym (said_text source text is by) ∙ said)

-- what holds of a fault holds of an answer that is that fault
refused_as : {T : Type 0} (r : Result T SourceFault) (e : SourceFault) (P : SourceFault → Type 0) → IsErrAnd r (λ x. x ≡ e) → P e → IfErr r P
refused_as (Ok x) e P h p = tt
refused_as (Err x) e P h p = subst P (sym h) p

image_fault : (source : File) (f : ReadFault) → is_image source.bytes ≡ true → (f ≡ read_fault.Memory) ⊎ (image_read source.bytes ≡ Err f) → IsFaultOf source (of_image f)
image_fault source read_fault.Memory is h = tt
image_fault source f is (inl h) = absurd (cc h)
image_fault source f is (inr h) = said_image source is ∙ ap said_by_image h

-- why a text cannot be assembled
pub text_faulted : (text : InGrammar) (f : AsmFault) → FaultedAt f (assembled (text_of text)) → IsFaultIn (said_by_plain (Ok text)) (of_text text f)
text_faulted text asm_fault.Memory h = tt
text_faulted text (asm_fault.Line fault line) h = ap (said_by_text text) h

of_places : (r : Result (List Stretch) ℕ) (said : Said) (fault : ObjasmFault) (line : ℕ) → scattered_at r ≡ Err (fault, line) → if_side_by_side r said ≡ Err (of_dialect (dialect_fault.Line fault line))
of_places (Ok places) said fault line e = absurd cc
of_places (Err number) said fault line e =
    let same : ◌≡◌ {A = ObjasmFault × ℕ} (Scattered, number) (fault, line) = cc in
    ap (λ x. Err (Dialect (dialect_fault.Line x.0 x.1))) same

scattered : (text : InGrammar) (said : Said) (f : DialectFault) → assembled (text_of text) ≡ Ok said → IsUntranslated f (scattered_at (places_of text)) → IsFaultIn (said_by_plain (Ok text)) (of_dialect f)
scattered text said dialect_fault.Memory read h = tt
scattered text said (dialect_fault.Line fault line) read h = ap (said_by_text text) read ∙ of_places (places_of text) said fault line h

untranslated : (source : File) (f : DialectFault) → is_image source.bytes ≡ false → IsUntranslated f (in_grammar source) → IsFaultOf source (of_dialect f)
untranslated source dialect_fault.Memory is h = tt
untranslated source (dialect_fault.Line fault line) is h = said_plain source is ∙ ap said_by_plain h

in_file : (source : File) (text : InGrammar) (f : SourceFault) → is_image source.bytes ≡ false → in_grammar source ≡ Ok text → IsFaultIn (said_by_plain (Ok text)) f → IsFaultOf source f
in_file source text f is by h = subst (λ (r : Result Said SourceFault). IsFaultIn r f) (sym (said_text source text is by)) h

-- why an image cannot be read, as a `?` answers it
pub image_refused : {T : Type 0} (source : File) (f : ReadFault) (r : Result T SourceFault) → IsErrAnd r (λ e. e ≡ of_image f) → is_image source.bytes ≡ true
    → (f ≡ read_fault.Memory) ⊎ (image_read source.bytes ≡ Err f) → IfErr r (IsFaultOf source)
image_refused source f r answered is h = refused_as r (of_image f) (IsFaultOf source) answered (image_fault source f is h)

-- why a text in our grammar is refused
pub text_refused : {T : Type 0} (source : File) (text : InGrammar) (f : SourceFault) (r : Result T SourceFault) → IsErrAnd r (λ e. e ≡ f) → is_image source.bytes ≡ false → in_grammar source ≡ Ok text
    → IsFaultIn (said_by_plain (Ok text)) f → IfErr r (IsFaultOf source)
text_refused source text f r answered is by h = refused_as r f (IsFaultOf source) answered (in_file source text f is by h)

-- why the lines of one that is assembled are not placed
pub places_refused : {T : Type 0} (source : File) (text : InGrammar) (said : Said) (f : DialectFault) (r : Result T SourceFault) → IsErrAnd r (λ e. e ≡ of_dialect f) → is_image source.bytes ≡ false
    → in_grammar source ≡ Ok text → assembled (text_of text) ≡ Ok said → IsUntranslated f (scattered_at (places_of text)) → IfErr r (IsFaultOf source)
places_refused source text said f r answered is by read h =
    refused_as r (of_dialect f) (IsFaultOf source) answered (in_file source text (of_dialect f) is by (scattered text said f read h))

-- why a text in ObjAsm's dialect cannot be translated
pub dialect_refused : {T : Type 0} (source : File) (f : DialectFault) (r : Result T SourceFault) → IsErrAnd r (λ e. e ≡ of_dialect f) → is_image source.bytes ≡ false
    → IsUntranslated f (in_grammar source) → IfErr r (IsFaultOf source)
dialect_refused source f r answered is h = refused_as r (of_dialect f) (IsFaultOf source) answered (untranslated source f is h)
