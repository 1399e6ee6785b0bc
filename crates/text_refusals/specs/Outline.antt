-- The tables and the values of the text of a statement, a machine file or a cycle profile, line by line, as
-- its words say. A key is taken to be one word or one text in quotes, as in the statements that we print.
-- What that amounts to for plain lines is said by `PlainLines`.
use Rattle.std.specs.Prelude.{◌==◌, ◌&&◌, ◌||◌, ◌+◌, not, zero, suc, Bool, true, false, ℕ}
use Rattle.std.specs.Prelude.{List, [], ◌∷◌, ◌++◌, codes, length, take, drop, map, nat_eq, reverse}
use Rattle.std.specs.Prelude.{Option, Some, None, if◌then◌else◌}
use Rattle.std.specs.Borrow.{Bor}
use Rattle.std.specs.List.{prefix_len, starts_with}
use Rattle.asm_text.specs.Pieces.{is_blank}
use Rattle.asm_text.specs.Source.{lines_of}
use Rattle.toml_reading.specs.Documents.{is_one_of}
use Rattle.text_refusals.specs.declared.outline.OutlineItem.{OutlineItem as CodeItem}
use Rattle.text_refusals.specs.declared.outline.OutlineItem.TheVariants as code_item
use Rattle.text_refusals.specs.declared.outline.KeyValue.{KeyValue as CodeKeyValue}
use Rattle.text_refusals.specs.declared.outline.OutlineReading.{OutlineReading as CodeReading}
use Rattle.text_refusals.specs.declared.outline.OutlineCursor.{OutlineCursor as CodeSpot}
use Rattle.text_refusals.specs.declared.outline.OutlineTable.{OutlineTable as CodeTable}
use Rattle.text_refusals.specs.declared.outline.TableKeys.{TableKeys as CodeTableKeys}
use Rattle.text_refusals.specs.declared.outline_tokens.OutlineToken.{OutlineToken as CodeToken}
use Rattle.text_refusals.specs.declared.outline_tokens.OutlineToken.TheVariants as code_token
use Rattle.text_refusals.specs.declared.outline_tokens.OutlineValue.{OutlineValue as CodeValue}
use Rattle.text_refusals.specs.declared.outline_tokens.OutlineValue.TheVariants as code_value

-- ## The words of a line

-- what is between words: a blank, a CR, = or ,
abbrev pub is_gap : ℕ → Bool
is_gap b = is_blank b || (b == 13 || (b == 61 || b == 44))

abbrev pub is_quote : ℕ → Bool
is_quote b = b == 34 || b == 39

-- one of [ ] { }
abbrev pub is_bracket : ℕ → Bool
is_bracket b = b == 91 || (b == 93 || (b == 123 || b == 125))

-- none of these, and no #
abbrev pub is_bare : ℕ → Bool
is_bare b = not (is_gap b || (is_quote b || (is_bracket b || b == 35)))

-- A bare word; a text with the quotes before and after it, one or three; a text that goes on after its line,
-- with the quotes before it; an array, or a table in braces, and whether it ends at once.
pub data Value : Type 0 where
  Bare : List ℕ → Value
  Quoted : (quotes : List ℕ) → List ℕ → Value
  Cut : (quotes : List ℕ) → List ℕ → Value
  Array : (is_empty : Bool) → Value
  InlineTable : (is_empty : Bool) → Value

-- a bracket, a key, a value, or what is between them
pub data Token : Type 0 where
  Gap : Token
  OpensArray : (is_empty : Bool) → Token
  ClosesArray : Token
  OpensTable : (is_empty : Bool) → Token
  ClosesTable : Token
  Key : List ℕ → Token
  OfValue : Value → Token

-- the quotes around a text: three where it may have more than one line
abbrev pub quotes_of : (quote : ℕ) → (is_long : Bool) → List ℕ
quotes_of quote is_long =
    if quote == 34 then (if is_long then codes "\"\"\"" else codes "\"")
    else (if is_long then codes "'''" else codes "'")

-- between such quotes a quote after \ ends nothing
abbrev pub has_escapes : (quotes : List ℕ) → Bool
has_escapes [] = false
has_escapes (b ∷ bs) = b == 34

abbrev pub is_front : (front text : List ℕ) → Bool
is_front front text = starts_with nat_eq text front

-- how many bytes are before the quotes that end a text, all where there are none
unfoldable pub quoted_len : (quotes : List ℕ) → (escaped : Bool) → List ℕ → ℕ
quoted_len quotes escaped [] = 0
quoted_len quotes escaped (b ∷ bs) =
    if not escaped && is_front quotes (b ∷ bs) then 0
    else quoted_len quotes (b == 92 && (has_escapes quotes && not escaped)) bs + 1

-- what follows a text and its quotes; a long text may itself end in one or two more
abbrev pub past_text : (quotes : List ℕ) → List ℕ → List ℕ
past_text quotes text =
    let after = drop (length quotes) (drop (quoted_len quotes false text) text) in
    drop (prefix_len is_quote after) after

-- that, if the text ends on the line
abbrev pub past_end : (quotes : List ℕ) → List ℕ → Option (List ℕ)
past_end quotes text =
    if quoted_len quotes false text == length text then None else Some (past_text quotes text)

abbrev pub past_blanks : List ℕ → List ℕ
past_blanks text = drop (prefix_len is_blank text) text

abbrev pub starts_byte : ℕ → List ℕ → Bool
starts_byte byte [] = false
starts_byte byte (b ∷ bs) = b == byte

-- the words of a key
abbrev pub text_of : Value → List ℕ
text_of (Bare w) = w
text_of (Quoted quotes w) = w
text_of _ = []

-- a word is a key where = comes next, else a value
abbrev pub key_or_value : Value → List ℕ → Token
key_or_value value after = if starts_byte 61 (past_blanks after) then Key (text_of value) else OfValue value

-- with what follows it
abbrev pub word_at : Value → List ℕ → Token × List ℕ
word_at value after = (key_or_value value after, after)

abbrev pub bare_at : List ℕ → Token × List ℕ
bare_at text = word_at (Bare (take (prefix_len is_bare text) text)) (drop (prefix_len is_bare text) text)

abbrev pub text_left : (quotes rest : List ℕ) → Option (List ℕ) → Token × List ℕ
text_left quotes rest None = (OfValue (Cut quotes rest), [])
text_left quotes rest (Some after) = word_at (Quoted quotes (take (quoted_len quotes false rest) rest)) after

-- the text after quotes
abbrev pub text_at : (quotes rest : List ℕ) → Token × List ℕ
text_at quotes rest = text_left quotes rest (past_end quotes rest)

-- what follows two such quotes
abbrev pub after_two : (quote : ℕ) → List ℕ → Option (List ℕ)
after_two quote [] = None
after_two quote (a ∷ []) = None
after_two quote (a ∷ (b ∷ rest)) = if a == quote && b == quote then Some rest else None

abbrev pub quoted_by : (quote : ℕ) → List ℕ → Option (List ℕ) → Token × List ℕ
quoted_by quote rest None = text_at (quotes_of quote false) rest
quoted_by quote rest (Some long) = text_at (quotes_of quote true) long

abbrev pub quoted_at : (quote : ℕ) → List ℕ → Token × List ℕ
quoted_at quote rest = quoted_by quote rest (after_two quote rest)

abbrev pub bracket_at : ℕ → List ℕ → Token
bracket_at b rest =
    if b == 91 then OpensArray (starts_byte 93 (past_blanks rest))
    else (if b == 93 then ClosesArray
    else (if b == 123 then OpensTable (starts_byte 125 (past_blanks rest)) else ClosesTable))

-- what a byte begins, and what follows that; # begins a comment
abbrev pub token_at : ℕ → List ℕ → Token × List ℕ
token_at b rest =
    if b == 35 then (Gap, [])
    else (if is_gap b then (Gap, rest)
    else (if is_bracket b then (bracket_at b rest, rest)
    else (if is_quote b then quoted_at b rest else bare_at (b ∷ rest))))

abbrev pub first_token : List ℕ → Option (Token × List ℕ)
first_token [] = None
first_token (b ∷ rest) = Some (token_at b rest)

-- as many tokens at most
unfoldable pub tokens : ℕ → List ℕ → List Token
tokens zero text = []
tokens (suc n) [] = []
tokens (suc n) (b ∷ rest) = (token_at b rest).0 ∷ tokens n (token_at b rest).1

-- ## The tables and values

-- a table begins: the line, its name, and whether it is one of a list, as after [[ or in braces in an array
pub record Table : Type 0 where
  pub line : ℕ
  pub name : List ℕ
  pub is_listed : Bool

-- a value: its line, the name of its table, empty for the file itself, its key, and how many arrays it is in,
-- where 3 stands for more
pub record KeyValue : Type 0 where
  pub line : ℕ
  pub list : List ℕ
  pub key : List ℕ
  pub depth : ℕ
  pub value : Value

-- the end of a table in braces
pub data Item : Type 0 where
  Begins : Table → Item
  States : KeyValue → Item
  Ends : Item

-- the name of a table, the last key, the arrays around, and whether it is a table that the file may have
pub record Spot : Type 0 where
  pub list : List ℕ
  pub key : List ℕ
  pub depth : ℕ
  pub is_part : Bool

-- the keys of a file whose values are tables: those whose values are lists of tables, and those whose value
-- is one table
pub record TableKeys : Type 0 where
  pub lists : List (List ℕ)
  pub tables : List (List ℕ)

-- what was read, the spot at hand, those around the brackets that are open, the nearest first, and the quotes
-- of a text that goes on
pub record Reading : Type 0 where
  pub keys : TableKeys
  pub at : Spot
  pub around : List Spot
  pub quotes : List ℕ
  pub items : List Item

abbrev pub in_list : List ℕ → Spot
in_list name = record { list = name; key = []; depth = 0; is_part = true }

-- in a table where none may be
abbrev pub nowhere : Spot
nowhere = record { list = []; key = []; depth = 0; is_part = false }

-- in one array more
abbrev pub in_array : Spot → Spot
in_array s = record s { depth = if s.depth == 0 then 1 else (if s.depth == 1 then 2 else 3) }

-- the keys whose values, in so many arrays, are tables of the file
abbrev pub keys_at : TableKeys → (depth : ℕ) → List (List ℕ)
keys_at keys depth = if depth == 0 then keys.tables else (if depth == 1 then keys.lists else [])

-- a table in braces there is one of the file's
abbrev pub is_table_at : TableKeys → Spot → Bool
is_table_at keys s = s.is_part && (length s.list == 0 && is_one_of (keys_at keys s.depth) s.key)

abbrev pub item_if : Bool → Reading → Item → Reading
item_if b r i = record r { items = if b then r.items ++ (i ∷ []) else r.items }

abbrev pub with_value : ℕ → Reading → Value → Reading
with_value line r value =
    item_if (r.at).is_part r
    (States (record {
      line = line;
      list = (r.at).list;
      key = (r.at).key;
      depth = (r.at).depth;
      value = value;
    }))

-- a bracket opens, with this spot after it
abbrev pub opened : Reading → Spot → Reading
opened r s = record r { at = s; around = r.at ∷ r.around }

abbrev pub closed_to : Reading → List Spot → Reading
closed_to r [] = r
closed_to r (s ∷ around) = record r { at = s; around = around }

-- the last bracket that is open ends
abbrev pub closed : Reading → Reading
closed r = closed_to r r.around

abbrev pub array_begun : ℕ → Reading → (is_empty : Bool) → Reading
array_begun line r is_empty = opened (with_value line r (Array is_empty)) (in_array r.at)

-- a table in braces begins: its name is its key
abbrev pub table_begun : ℕ → Reading → (is_empty : Bool) → Reading
table_begun line r is_empty =
    if is_table_at r.keys r.at
    then
    opened
    (item_if true r (Begins (record { line = line; name = (r.at).key; is_listed = (r.at).depth == 1 })))
    (in_list (r.at).key)
    else opened (with_value line r (InlineTable is_empty)) nowhere

abbrev pub table_ended : Reading → Reading
table_ended r = closed (item_if (r.at).is_part r Ends)

abbrev pub with_key : Reading → List ℕ → Reading
with_key r key = record r { at = record r.at { key = key } }

-- the quotes that a text still wants
abbrev pub wanted : Value → List ℕ
wanted (Cut quotes w) = quotes
wanted _ = []

abbrev pub taken : ℕ → Reading → Token → Reading
taken line r Gap = r
taken line r (OpensArray is_empty) = array_begun line r is_empty
taken line r ClosesArray = closed r
taken line r (OpensTable is_empty) = table_begun line r is_empty
taken line r ClosesTable = table_ended r
taken line r (Key key) = with_key r key
taken line r (OfValue value) = record (with_value line r value) { quotes = wanted value }

unfoldable pub all_taken : ℕ → Reading → List Token → Reading
all_taken line r [] = r
all_taken line r (p ∷ ps) = all_taken line (taken line r p) ps

abbrev pub line_taken : ℕ → Reading → List ℕ → Reading
line_taken line r text = all_taken line r (tokens (length text) text)

-- ## Lines

-- the first word, if it is a bare one
abbrev pub bare_word : List ℕ → List ℕ
bare_word text = take (prefix_len is_bare (past_blanks text)) (past_blanks text)

abbrev pub after_bracket : ℕ → List ℕ → Option Table
after_bracket line [] = Some (record { line = line; name = []; is_listed = false })
after_bracket line (b ∷ rest) =
    if b == 91 then Some (record { line = line; name = bare_word rest; is_listed = true })
    else Some (record { line = line; name = bare_word (b ∷ rest); is_listed = false })

-- a line that begins with [ or [[ begins a table
abbrev pub header_at : ℕ → List ℕ → Option Table
header_at line [] = None
header_at line (b ∷ rest) = if b == 91 then after_bracket line rest else None

abbrev pub header_of : ℕ → List ℕ → Option Table
header_of line text = header_at line (past_blanks text)

abbrev pub begun : Reading → Table → Reading
begun r t = record r { at = in_list t.name; items = r.items ++ (Begins t ∷ []) }

abbrev pub head_read : ℕ → Reading → List ℕ → Option Table → Reading
head_read line r text (Some t) = begun r t
head_read line r text None = line_taken line r text

-- where a text goes on, what follows its end is read, if it ends on the line
abbrev pub rest_read : ℕ → Reading → Option (List ℕ) → Reading
rest_read line r None = r
rest_read line r (Some rest) = line_taken line (record r { quotes = [] }) rest

-- a line begins no table where a text goes on or a bracket is open
abbrev pub line_read : ℕ → Reading → List ℕ → Reading
line_read line r text =
    if not (length r.quotes == 0) then rest_read line r (past_end r.quotes text)
    else (if length r.around == 0 then head_read line r text (header_of line text)
    else line_taken line r text)

-- the lines, the first of which has the number
unfoldable pub lines_read : ℕ → Reading → List (List ℕ) → Reading
lines_read line r [] = r
lines_read line r (text ∷ texts) = lines_read (line + 1) (line_read line r text) texts

abbrev pub nothing_read : TableKeys → Reading
nothing_read keys = record { keys = keys; at = in_list []; around = []; quotes = []; items = [] }

-- the tables and values of a text, in its order
abbrev pub items_of : TableKeys → List ℕ → List Item
items_of keys text = (lines_read 1 (nothing_read keys) (lines_of text)).items

-- ## As the code has them

abbrev pub value_of : CodeValue → Value
value_of (code_value.Bare w) = Bare w.now
value_of (code_value.Quoted quotes w) = Quoted quotes.now w.now
value_of (code_value.Cut quotes w) = Cut quotes.now w.now
value_of (code_value.Array is_empty) = Array is_empty
value_of (code_value.InlineTable is_empty) = InlineTable is_empty

abbrev pub token_of : CodeToken → Token
token_of code_token.Gap = Gap
token_of (code_token.OpensArray is_empty) = OpensArray is_empty
token_of code_token.ClosesArray = ClosesArray
token_of (code_token.OpensTable is_empty) = OpensTable is_empty
token_of code_token.ClosesTable = ClosesTable
token_of (code_token.Key w) = Key w.now
token_of (code_token.OfValue w) = OfValue (value_of w)

-- with what follows it
abbrev pub in_tokens : CodeToken × Bor (List ℕ) → Token × List ℕ
in_tokens f = (token_of f.0, f.1.now)

abbrev pub table_of : CodeTable → Table
table_of t = record { line = t.line; name = t.name.now; is_listed = t.is_listed }

abbrev pub key_value_of : CodeKeyValue → KeyValue
key_value_of p =
    record { line = p.line; list = p.list.now; key = p.key.now; depth = p.depth; value = value_of p.value }

abbrev pub item_of : CodeItem → Item
item_of (code_item.Begins t) = Begins (table_of t)
item_of (code_item.States p) = States (key_value_of p)
item_of code_item.Ends = Ends

abbrev pub spot_of : CodeSpot → Spot
spot_of s = record { list = s.list.now; key = s.key.now; depth = s.depth; is_part = s.is_part }

abbrev pub table_keys_of : CodeTableKeys → TableKeys
table_keys_of keys =
    record { lists = map (λ k. k.now) keys.lists.now; tables = map (λ k. k.now) keys.tables.now }

abbrev pub reading_of : CodeReading → Reading
reading_of r =
    record {
      keys = table_keys_of r.keys;
      at = spot_of r.at;
      around = reverse (map spot_of r.around.items);
      quotes = r.quotes.now;
      items = map item_of r.items.items;
    }
