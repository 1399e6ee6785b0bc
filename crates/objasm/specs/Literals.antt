-- Numbers that are loaded: `LDR Rd,=expression`. Where MOV or MVN gives the number, that is taken; else a word
-- of a pool holds it, which stands at the next LTORG or at the end (our reading of ObjAsm's manual on
-- literals; docs/DECISIONS.md).
use Rattle.std.specs.Prelude.{◌==◌, ◌&&◌, ◌||◌, not, ℕ, Bool, false, List, [], ◌∷◌, ◌++◌, codes, decimal}
use Rattle.std.specs.Prelude.{drop, length, map, take, unwrap_or, Option, Some, None, is_some, option_map}
use Rattle.std.specs.Prelude.{Result, Ok, Err, if◌then◌else◌}
use Rattle.std.specs.List.{list_any}
use Rattle.std.specs.Option.{option_or}
use Rattle.std.specs.Str.{bytes_eq}
use Rattle.image.specs.Labels.{Names, no_names, address_of}
use Rattle.objasm.specs.Exchanges.{flipped, is_rotated}
use Rattle.objasm.specs.Names.{Meanings, and_then, is_set, mapped, with_name}
use Rattle.objasm.specs.Parts.{Part, Run, Byte, after_blanks, after_field, first_field, front_blanks}
use Rattle.objasm.specs.Parts.{lone_run, part_of, parts}
use Rattle.objasm.specs.PlainLines.{body_text, parts_text}
use Rattle.objasm.specs.Settings.{is_no_name, value_of}
use Rattle.objasm.specs.Symbols.{begins_number}
use Rattle.objasm.specs.Words.{is_load, moved_word}
use Rattle.objasm.specs.declared.exchanges.Flip.TheVariants.{Invert}
use Rattle.objasm.specs.declared.faults.LineFault.{LineFault}
use Rattle.objasm.specs.declared.faults.LineFault.TheVariants.{BadName}
use Rattle.objasm.specs.declared.literals.Literal.{Literal as CodeLiteral}
use Rattle.objasm.specs.declared.literals.Literal.TheVariants as code
use Rattle.objasm.specs.declared.literals.Load.{Load as CodeLoad}
use Rattle.objasm.specs.declared.literals.Pool.{Pool as CodePool}

-- ## The line

-- a label or nothing, blanks, LDR with or without a condition, a register, and what follows a comma and `=`
pub record Load : Type 0 where
  pub label : List ℕ
  pub blanks : List Part
  pub word : List ℕ
  pub register : List Part
  pub value : List Part

abbrev pub load_view : CodeLoad → Load
load_view l =
    record {
      label = l.label.now;
      blanks = map part_of l.blanks.now;
      word = l.word.now;
      register = map part_of l.register.now;
      value = map part_of l.value.now;
    }

abbrev pub after_equals : List Part → Option (List Part)
after_equals (Byte b ∷ ps) = if b == 61 then Some ps else None
after_equals _ = None

-- a comma, blanks, and what follows a `=`
abbrev pub loaded_at : List Part → Option (List Part)
loaded_at (Byte b ∷ ps) = if b == 44 then after_equals (after_blanks ps) else None
loaded_at _ = None

abbrev pub load_with : (label : List ℕ) → (blanks : List Part) → (word : List ℕ) → List Part → Option Load
load_with label blanks word ps =
    option_map
    (λ value.
    record { label = label; blanks = blanks; word = word; register = first_field ps; value = value })
    (loaded_at (after_field ps))

abbrev pub load_at : (label : List ℕ) → (blanks : List Part) → List Part → Option Load
load_at label blanks (Run word ∷ ps) = if is_load word then load_with label blanks word ps else None
load_at label blanks _ = None

abbrev pub load_of : List Part → Option Load
load_of (Run label ∷ ps) = load_at label (front_blanks ps) (after_blanks ps)
load_of ps = load_at [] (front_blanks ps) (after_blanks ps)

-- ## The number

-- MOV or MVN gives the number, or a word of the pool holds what is written here: a number or a label
pub data Literal : Type 0 where
  Moved : ℕ → Literal
  Pooled : List ℕ → Literal

abbrev pub literal_view : CodeLiteral → Literal
literal_view (code.Moved n) = Moved n
literal_view (code.Label run) = Pooled run.now
literal_view (code.Number n) = Pooled (decimal n)

abbrev pub literal_for : ℕ → Literal
literal_for n = if is_rotated n || is_rotated (flipped Invert n) then Moved n else Pooled (decimal n)

-- a run that is no number, names no register and is set by no line
abbrev pub is_label_name : Meanings → List ℕ → Bool
is_label_name m run = not (is_no_name run || is_set m run)

abbrev pub literal_by : Meanings → Option (List ℕ) → List Part → Result Literal LineFault
literal_by m (Some run) ps =
    if is_label_name m run then Ok (Pooled run) else mapped literal_for (value_of m ps)
literal_by m None ps = mapped literal_for (value_of m ps)

abbrev pub literal_of : Meanings → List Part → Result Literal LineFault
literal_of m ps = literal_by m (lone_run (after_blanks ps)) ps

-- ## The pool

-- the words that wait: for what is written in each the number of the line that first loads it, their lines in
-- that order, and the number of the line that loads the first
pub record Pool : Type 0 where
  pub known : Names
  pub lines : List ℕ
  pub first : Option ℕ

abbrev pub pool_of : CodePool → Pool
pool_of p = record { known = address_of p.known; lines = p.lines.items; first = p.first }

abbrev pub no_pool : Pool
no_pool = record { known = no_names; lines = []; first = None }

abbrev pub word_front : List ℕ
word_front = codes "literal_"

-- the name of the word that the line of this number is the first to load
abbrev pub word_name : ℕ → List ℕ
word_name n = word_front ++ decimal n

abbrev pub pool_line : ℕ → List ℕ → List ℕ
pool_line n text = word_name n ++ (codes " DCD " ++ (text ++ 10 ∷ []))

-- a word that the line of this number loads, behind the others
abbrev pub with_more : ℕ → List ℕ → Pool → Pool
with_more n text p =
    record {
      known = with_name text n p.known;
      lines = p.lines ++ pool_line n text;
      first = option_or p.first (Some n);
    }

-- it is put there unless one of them has the same written in it
abbrev pub with_word : ℕ → List ℕ → Pool → Pool
with_word n text p = if is_some (p.known text) then p else with_more n text p

-- the number of the line that is the first to load it
abbrev pub first_load : ℕ → List ℕ → Pool → ℕ
first_load n text p = unwrap_or (p.known text) n

-- ## What stands for the line

-- the line with another word, and another operand in the place of `=` and its value
abbrev pub with_operand : Meanings → Load → (word operand : List ℕ) → List ℕ
with_operand m l word operand =
    l.label ++ (parts_text m l.blanks ++ (word ++ (parts_text m l.register ++ 44 ∷ operand)))

abbrev pub load_as : Meanings → ℕ → Pool → Load → Literal → Pool × List ℕ
load_as m n p l (Moved k) = (p, with_operand m l (moved_word l.word) (35 ∷ decimal k))
load_as m n p l (Pooled text) =
    (with_word n text p, with_operand m l l.word (word_name (first_load n text p)))

-- the pool behind a line of this number, and the line of the dialect that stands for it
abbrev pub loaded : Meanings → ℕ → Pool → Load → Result (Pool × List ℕ) LineFault
loaded m n p l = mapped (load_as m n p l) (literal_of m l.value)

-- the pool, and what stands for that line in our grammar
abbrev pub load_text : Meanings → ℕ → Pool → Load → Result (Pool × List ℕ) LineFault
load_text m n p l = and_then (λ r. mapped (λ text. (r.0, text)) (body_text m (parts r.1))) (loaded m n p l)

abbrev pub text_by : Meanings → ℕ → Pool → Option Load → List Part → Result (Pool × List ℕ) LineFault
text_by m n p (Some l) ps = load_text m n p l
text_by m n p None ps = mapped (λ text. (p, text)) (body_text m ps)

-- the names of words of pools are no names of the author's
abbrev pub is_word_name : List ℕ → Bool
is_word_name run =
    bytes_eq (take (length word_front) run) word_front && begins_number (drop (length word_front) run)

abbrev pub is_word_part : Part → Bool
is_word_part (Run run) = is_word_name run
is_word_part (Byte b) = false

abbrev pub has_word_name : List Part → Bool
has_word_name ps = list_any is_word_part ps

-- the pool behind a line of this number, and what stands for it in our grammar
abbrev pub line_text : Meanings → ℕ → Pool → List Part → Result (Pool × List ℕ) LineFault
line_text m n p ps = if has_word_name ps then Err BadName else text_by m n p (load_of ps) ps
