-- Files that are read one after another, a cycle profile's first.
use Rattle.std.proofs.Common.{◌≡◌, ◌+◌, ◌<◌, ◌≤◌, ◌∙◌, ℕ, Bool, true, false, List, [], ◌∷◌, ◌++◌, Option, Some, None, Ok, Err, drop, length, map, refl, sym, ap, subst, inl, inr}
use Rattle.std.specs.Prelude.{Vec, get_or, is_some, if◌then◌else◌, option_map}
use Rattle.std.specs.Borrow.{Bor}
use Rattle.std.specs.List.{cons_option}
use Rattle.std.specs.declared.alloc.Global.{Global}
use Rattle.std.proofs.lemmas.List.{append-nil, append_assoc, at_drop_all, at_drop_more, map-append}
use Rattle.arcwcet.specs.Files.{FailsToRead, ReadsAll, Reading, Texts, inputs, inputs_in, others_in}
use Rattle.sources.specs.declared.file.Dialect.{Dialect}
use Rattle.arcwcet.specs.declared.fault.StoreFault.{StoreFault}

module _ {S : Type 0} (reads : Reading S) where
  pub front_read : (n f : Option (List ℕ)) (names files : Texts) (a b c : S) → ReadsAll reads a (cons_option n []) (cons_option f []) b → ReadsAll reads b names files c
      → ReadsAll reads a (cons_option n names) (cons_option f files) c
  front_read None None names files a b c h k = subst (λ (s : S). ReadsAll reads s names files c) h k
  front_read (Some n) (Some f) names files a b c (between, read, same) k = (between, read, subst (λ (s : S). ReadsAll reads s names files c) same k)
  front_read None (Some f) names files a b c h k = absurd h
  front_read (Some n) None names files a b c h k = absurd h

  -- the profile's file could not be read, or one after it
  pub front_fails : (n : Option (List ℕ)) (names : Texts) (e : StoreFault) (a c : S) → FailsToRead reads a (cons_option n []) e c → FailsToRead reads a (cons_option n names) e c
  front_fails None names e a c never = absurd never
  front_fails (Some n) names e a c (inl h) = inl h
  front_fails (Some n) names e a c (inr (between, f, read, never)) = absurd never

  pub rest_fails : (n f : Option (List ℕ)) (names : Texts) (e : StoreFault) (a b c : S) → ReadsAll reads a (cons_option n []) (cons_option f []) b → FailsToRead reads b names e c → FailsToRead reads a (cons_option n names) e c
  rest_fails None None names e a b c h k = subst (λ (s : S). FailsToRead reads s names e c) h k
  rest_fails (Some n) (Some f) names e a b c (between, read, same) k = inr (between, f, read, subst (λ (s : S). FailsToRead reads s names e c) same k)
  rest_fails None (Some f) names e a b c h k = absurd h
  rest_fails (Some n) None names e a b c h k = absurd h

  -- ## A list of files

  abbrev pub named : List (Bor (List ℕ)) → Texts
  named names = map (λ n. n.now) names

  -- what is read or fails from here on was read so from the start
  pub record ReadSoFar (names : List (Bor (List ℕ))) (start : S) (i : ℕ) (kept : Texts) (store : S) : Type 0 where
    pub rest : (read : Texts) (after : S) → ReadsAll reads store (named (drop i names)) read after → ReadsAll reads start (named names) (kept ++ read) after
    pub fails : (fault : StoreFault) (after : S) → FailsToRead reads store (named (drop i names)) fault after → FailsToRead reads start (named names) fault after

  pub begins : (names : List (Bor (List ℕ))) (start : S) (kept : Texts) → kept ≡ [] → ReadSoFar names start 0 kept start
  begins names start kept none = subst (λ (k : Texts). ReadSoFar names start 0 k start) (sym none) (record { rest = λ read after h. h; fails = λ fault after h. h })

  module _ (names : List (Bor (List ℕ))) (start : S) (i : ℕ) (kept : Texts) (store : S) (so_far : ReadSoFar names start i kept store) where
    module _ (other : Bor (List ℕ)) (within : i < length names) where
      front : drop i names ≡ get_or names i other ∷ drop (i + 1) names
      front = at_drop_more (λ (ns : List (Bor (List ℕ))). ns) names i other within

      pub goes_on : (file : List ℕ) (next : S) → reads store (get_or names i other).now (Ok file) next → (more : Texts) → more ≡ kept ++ file ∷ [] → ReadSoFar names start (i + 1) more next
      goes_on file next given more is =
          subst (λ (k : Texts). ReadSoFar names start (i + 1) k next) (sym is)
          (record {
            rest = λ read after h.
                subst (λ (ks : Texts). ReadsAll reads start (named names) ks after) (sym (append_assoc kept (file ∷ []) read))
                (so_far.rest (file ∷ read) after (subst (λ (ns : List (Bor (List ℕ))). ReadsAll reads store (named ns) (file ∷ read) after) (sym front) (next, given, h)));
            fails = λ fault after h. so_far.fails fault after (subst (λ (ns : List (Bor (List ℕ))). FailsToRead reads store (named ns) fault after) (sym front) (inr (next, file, given, h)));
          })

      pub stops : (fault : StoreFault) (after : S) → reads store (get_or names i other).now (Err fault) after → FailsToRead reads start (named names) fault after
      stops fault after given = so_far.fails fault after (subst (λ (ns : List (Bor (List ℕ))). FailsToRead reads store (named ns) fault after) (sym front) (inl given))

    pub ends : length names ≤ i → ReadsAll reads start (named names) kept store
    ends all =
        subst (λ (ks : Texts). ReadsAll reads start (named names) ks store) (append-nil kept)
        (so_far.rest [] store (subst (λ (ns : List (Bor (List ℕ))). ReadsAll reads store (named ns) [] store) (sym (at_drop_all (λ (ns : List (Bor (List ℕ))). ns) names i all)) refl))

abbrev pub bytes_kept : List (Vec ℕ Global) → Texts
bytes_kept files = map (λ v. v.items) files

-- a push that succeeds
pub pushed : (ok : Bool) (old new : List (Vec ℕ Global)) (v : Vec ℕ Global) → new ≡ (if ok then old ++ v ∷ [] else old) → ok ≡ true → bytes_kept new ≡ bytes_kept old ++ v.items ∷ []
pushed true old new v is ok = ap bytes_kept is ∙ map-append (λ (w : Vec ℕ Global). w.items) old (v ∷ [])
pushed false old new v is ok = absurd (cc ok)

-- the length after it
pub counted : (ok : Bool) (old new : ℕ) → new ≡ (if ok then old + 1 else old) → ok ≡ true → new ≡ old + 1
counted true old new is ok = is
counted false old new is ok = absurd (cc ok)

-- ## What was read, by whether a profile's file is named

pub inputs_split : {X Y : Type 0} (f : X → List ℕ) (g : Y → List ℕ) (name : Option X) (read : Option Y) (files : Texts) → is_some read ≡ is_some name
    → (dialect : Dialect) → inputs dialect (option_map g read) files ≡ inputs_in dialect (option_map f name) (cons_option (option_map g read) files)
inputs_split f g None None files both dialect = refl
inputs_split f g (Some n) (Some r) files both dialect = refl
inputs_split f g None (Some r) files both dialect = absurd (cc both)
inputs_split f g (Some n) None files both dialect = absurd (cc both)

pub others_split : {X Y : Type 0} (f : X → List ℕ) (g : Y → List ℕ) (name : Option X) (read : Option Y) (files : Texts) → is_some read ≡ is_some name
    → files ≡ others_in (option_map f name) (cons_option (option_map g read) files)
others_split f g None None files both = refl
others_split f g (Some n) (Some r) files both = refl
others_split f g None (Some r) files both = absurd (cc both)
others_split f g (Some n) None files both = absurd (cc both)
