-- What is read of the document of a machine file.
use Rattle.std.proofs.Common.{◌≡◌, ℕ, suc, ◌+◌, ◌-◌, ◌^◌, ◌≤◌, ◌<◌, ◌&&◌, ◌++◌, not, eqb, ltb, Bool, true, false, List, [], ◌∷◌, length, map, replicate, codes, All, Option, Some, None, option_map, Ok, inl, inr, refl, sym, ap, ◌∙◌, subst, arith}
use Rattle.std.specs.Prelude.{IfSome, IsTrue}
use Rattle.std.specs.List.{AllByRecursion, AllZip, list_all, zip}
use Rattle.std.specs.Str.{IsUtf8}
use Rattle.std.proofs.lemmas.Bool.{and_parts, cases_Bool, eqb-true, ltb-true}
use Rattle.toml.specs.Data.{Data, Members, depth, get_member, items_depth, member, members_depth, no_members, string, table}
use Rattle.toml.specs.Parse.{parse_document}
use Rattle.toml.specs.View.{items_of}
use Rattle.arm2_effect.specs.declared.modes.Mode.{Mode}
use Rattle.arm2_effect.specs.declared.modes.Mode.TheVariants.{User}
use Rattle.arm2_effect.specs.declared.modes.Reg.{Reg}
use Rattle.image.specs.Image.{may_hold}
use Rattle.memc.specs.Memory.{shift_of_size}
use Rattle.memc.specs.declared.spots.PageSize.{PageSize}
use Rattle.memc.specs.declared.spots.PageSize.TheVariants.{K4}
use Rattle.toml_reading.specs.Documents.{has_only_keys, is_one_of}
use Rattle.toml_reading.specs.Lowest.{AtKey, AtKeyOr, IsListOf, IsNamed, IsNumber, IsTable}
use Rattle.toml_reading.proofs.ReadingLemmas.{list_of-items_of}
use Rattle.machine_file.specs.MachineFile.{IsMachineFile, are_latched, has, is_letter, is_mappable, is_single, machine_in, set_flags}
use Rattle.machine_file.specs.MachineRules.{AreFlags, AreRegisters, AreRequests, IsAddress, IsEvent, IsIoc, IsPage, IsPutWord, IsSize, IsPutAddress, IsVidc, StatesMachine, StatesTimer}
use Rattle.machine_file.specs.Words.{HasNumber, IsWord, MayHaveNumber}
use Rattle.machine_file.specs.Names.{file_keys, ioc_keys, map_keys, name_of, named_mode, named_registers, register_keys, vidc_keys, word_keys}
use Rattle.machine_file.specs.Parts.{AreWords, IsInRange, IsIocInRange, IsVidcInRange, HasNoneTwice}
use Rattle.machine_file.specs.Stated.{IocSetting, Stated, VidcSetting, no_ioc, no_vidc}
use Rattle.machine_file.specs.Written.{Row, controller_rows, device_rows, document_of, file_rows, ioc_rows, letters_of, list_value, mode_name, number, page_data, page_rows, register_row, register_table, schedule_rows, table_of, table_value, unless_zero, vidc_rows, word_data, word_list_rows, word_rows}
use Rattle.machine_file.specs.declared.flags.PsrFlags.{PsrFlags}
use Rattle.machine_file.specs.declared.ioc_settings.TimerSetting.{TimerSetting}
use Rattle.machine_file.specs.declared.pages.MappedPage.{MappedPage}
use Rattle.machine_file.proofs.KeyTableLemmas.{machine_stated}
use Rattle.machine_file.proofs.TableOfLemmas.{Found, all_differ, depth_of_table, found_in_table, known_in_table, missing_in_table, optional_depth, row_keys}

-- ## Keys

module _ (key : List ℕ) (ms : Members) (d : Data) (P : Data → Type 0) where
  at_key : get_member key ms ≡ Some d → P d → AtKey key ms P
  at_key there h = rw there h

  at_key_or : (Missing : Type 0) → get_member key ms ≡ Some d → P d → AtKeyOr key ms Missing P
  at_key_or Missing there h = rw there h

is_number : (limit n : ℕ) → n ≤ limit → IsNumber limit (number n) n
is_number limit n h = (refl, h)

-- ## Flags

all_ways : (Bool → Bool) → Bool
all_ways p = p true && p false

in_all_ways : (p : Bool → Bool) → all_ways p ≡ true → (b : Bool) → p b ≡ true
unfolding all_ways
in_all_ways p h true = (and_parts (p true) (p false) h).0
in_all_ways p h false = (and_parts (p true) (p false) h).1

same : Bool → Bool → Bool
same true b = b
same false b = not b

same_is : (a b : Bool) → same a b ≡ true → a ≡ b
unfolding same
same_is true true h = refl
same_is true false h = absurd (cc)
same_is false true h = absurd (cc)
same_is false false h = refl

abbrev flags : Bool → Bool → Bool → Bool → Bool → Bool → PsrFlags
flags n z c v i f =
    record { negative = n; zero = z; carry = c; overflow = v; irq_masked = i; fiq_masked = f }

-- the letters of the flags set them, are letters and occur once
abbrev are_right : List ℕ → PsrFlags → Bool
are_right text f =
    (((((((same (has text 78) f.negative && same (has text 90) f.zero) && same (has text 67) f.carry)
    && same (has text 86) f.overflow) && same (has text 73) f.irq_masked) && same (has text 70) f.fiq_masked)
    && list_all is_letter text) && is_single text)

abbrev right : Bool → Bool → Bool → Bool → Bool → Bool → Bool
right n z c v i f = are_right (letters_of (flags n z c v i f)) (flags n z c v i f)

all_right : all_ways (λ n. all_ways (λ z. all_ways (λ c. all_ways (λ v. all_ways (λ i. all_ways (λ f. right n z c v i f)))))) ≡ true
unfolding all_ways same
all_right = refl

each_right : (n z c v i f : Bool) → right n z c v i f ≡ true
each_right n z c v i f =
    in_all_ways (λ x. right n z c v i x) (in_all_ways (λ x. all_ways (λ f. right n z c v x f)) (in_all_ways (λ x. all_ways (λ i. all_ways (λ f. right n z c x i f))) (in_all_ways (λ x. all_ways (λ v. all_ways (λ i. all_ways (λ f. right n z x v i f)))) (in_all_ways (λ x. all_ways (λ c. all_ways (λ v. all_ways (λ i. all_ways (λ f. right n x c v i f))))) (in_all_ways (λ x. all_ways (λ z. all_ways (λ c. all_ways (λ v. all_ways (λ i. all_ways (λ f. right x z c v i f)))))) all_right n) z) c) v) i) f

same_flags : (f g : PsrFlags) → f.negative ≡ g.negative → f.zero ≡ g.zero → f.carry ≡ g.carry
    → f.overflow ≡ g.overflow → f.irq_masked ≡ g.irq_masked → f.fiq_masked ≡ g.fiq_masked → f ≡ g
same_flags f g a b c d e h =
    ap (λ x. flags x f.zero f.carry f.overflow f.irq_masked f.fiq_masked) a
    ∙ ap (λ x. flags g.negative x f.carry f.overflow f.irq_masked f.fiq_masked) b
    ∙ ap (λ x. flags g.negative g.zero x f.overflow f.irq_masked f.fiq_masked) c
    ∙ ap (λ x. flags g.negative g.zero g.carry x f.irq_masked f.fiq_masked) d
    ∙ ap (λ x. flags g.negative g.zero g.carry g.overflow x f.fiq_masked) e
    ∙ ap (λ x. flags g.negative g.zero g.carry g.overflow g.irq_masked x) h

right_flags : (text : List ℕ) (f : PsrFlags) → are_right text f ≡ true → AreFlags (string text) f
right_flags text f h =
    let a = and_parts _ (is_single text) h in
    let b = and_parts _ (list_all is_letter text) a.0 in
    let c = and_parts _ (same (has text 70) f.fiq_masked) b.0 in
    let d = and_parts _ (same (has text 73) f.irq_masked) c.0 in
    let e = and_parts _ (same (has text 86) f.overflow) d.0 in
    let g = and_parts _ (same (has text 67) f.carry) e.0 in
    let i = and_parts (same (has text 78) f.negative) (same (has text 90) f.zero) g.0 in (
      sym (same_flags (set_flags text) f (same_is _ _ i.0) (same_is _ _ i.1) (same_is _ _ g.1) (same_is _ _ e.1) (same_is _ _ d.1) (same_is _ _ c.1)),
      b.1,
      a.1,
    )

flags_stated : (f : PsrFlags) → AreFlags (string (letters_of f)) f
flags_stated f =
    right_flags (letters_of f) f (each_right f.negative f.zero f.carry f.overflow f.irq_masked f.fiq_masked)

mode_stated : (m : Mode) → IsNamed named_mode (string (mode_name m)) m
mode_stated User = refl
mode_stated _ = refl

-- ## Registers

one_register : (key : List ℕ) (t : Members) (n : ℕ) → n < 2 ^ 32 → get_member key t ≡ unless_zero n
    → AtKeyOr key t (n ≡ 0) (λ e. IsWord e n)
one_register key t n small there = elim (cases_Bool (eqb n 0)) [
  | inl none ↦ rw (there, none) (eqb-true n 0 none)
  | inr some ↦ rw (there, some) (refl, omega (arith, small))
]

each_register : (rs : List Reg) (ws : List ℕ) (t : Members) → length rs ≡ length ws
    → All (λ w. w < 2 ^ 32) ws → Found t (map register_row (zip (map name_of rs) ws))
    → AllZip (λ r n. AtKeyOr (name_of r) t (n ≡ 0) (λ e. IsWord e n)) rs ws
each_register [] [] t count small found = tt
each_register [] (w ∷ ws) t count small found = absurd (omega (arith, count))
each_register (r ∷ rs) [] t count small found = absurd (omega (arith, count))
each_register (r ∷ rs) (w ∷ ws) t count small found = (
  one_register (name_of r) t w (small 0 w (omega arith)) found.0,
  each_register rs ws t (omega (arith, count)) (λ k d lt. small (suc k) d (omega (arith, lt))) found.1,
)

keys_of_rows : (ks : List (List ℕ)) (ws : List ℕ) → length ks ≡ length ws
    → row_keys (map register_row (zip ks ws)) ≡ ks
keys_of_rows [] ws count = refl
keys_of_rows (k ∷ ks) [] count = absurd (omega (arith, count))
keys_of_rows (k ∷ ks) (w ∷ ws) count = ap (λ ls. k ∷ ls) (keys_of_rows ks ws (omega (arith, count)))

all_zero : (rs : List Reg) (ws : List ℕ)
    → AllZip (λ r n. AtKeyOr (name_of r) no_members (n ≡ 0) (λ e. IsWord e n)) rs ws → ws ≡ replicate (length rs) 0
all_zero [] [] h = refl
all_zero [] (w ∷ ws) h = absurd h
all_zero (r ∷ rs) [] h = absurd h
all_zero (r ∷ rs) (w ∷ ws) h = rw (h.0, all_zero rs ws h.1)

module _ (ws : List ℕ) (count : length ws ≡ 26) (small : All (λ w. w < 2 ^ 32) ws) where
  abbrev the_rows : List Row
  the_rows = map register_row (zip register_keys ws)

  the_keys : row_keys the_rows ≡ register_keys
  the_keys = keys_of_rows register_keys ws (sym count)

  apart : all_differ register_keys ≡ true
  apart = refl

  words_stated : AllZip (λ r n. AtKeyOr (name_of r) (register_table ws) (n ≡ 0) (λ e. IsWord e n)) named_registers ws
  words_stated =
      each_register named_registers ws (register_table ws) (sym count) small (found_in_table the_rows (ap all_differ the_keys ∙ apart))

  -- a table with a register, or none where all are 0
  tabled_stated : (t : Members) → t ≡ register_table ws → (ms : Members)
      → get_member (codes "registers") ms ≡ table_value t
      → AtKeyOr (codes "registers") ms (ws ≡ replicate 26 0) (λ d. AreRegisters d ws)
  tabled_stated no_members same ms there =
      rw there (all_zero named_registers ws (subst (λ t. AllZip (λ r n. AtKeyOr (name_of r) t (n ≡ 0) (λ e. IsWord e n)) named_registers ws) (sym same) words_stated))
  tabled_stated (member k d t) same ms there =
      rw there (subst (λ u. AreRegisters (table u) ws) (sym same) (known_in_table register_keys the_rows (ap (list_all (is_one_of register_keys)) the_keys ∙ refl), words_stated))

  registers_stated : (ms : Members) → get_member (codes "registers") ms ≡ table_value (register_table ws)
      → AtKeyOr (codes "registers") ms (ws ≡ replicate 26 0) (λ d. AreRegisters d ws)
  registers_stated ms there = tabled_stated (register_table ws) refl ms there

-- ## Pages and words

page_stated : (p : MappedPage) → p.logical < 2 ^ 32 → p.physical < 2 ^ 32 → p.level < 2 ^ 32
    → IsPage (page_data p) p
page_stated p a b c =
    let found = found_in_table (page_rows p) refl in
    let ms : Members = table_of (page_rows p) in (
      known_in_table map_keys (page_rows p) refl,
      (
        at_key (codes "logical") ms (number p.logical) (λ e. IsWord e p.logical) found.0 (refl, omega (arith, a)),
        at_key (codes "physical") ms (number p.physical) (λ e. IsWord e p.physical) found.1.0 (refl, omega (arith, b)),
        at_key (codes "level") ms (number p.level) (λ e. IsWord e p.level) found.1.1.0 (refl, omega (arith, c)),
      ),
    )

low_logical : (size : PageSize) (n : ℕ) → n < 2 ^ (25 - shift_of_size size) → n < 2 ^ 32
low_logical K4 n h = omega (arith, h)
low_logical _ n h = omega (arith, h)

mappable_stated : (size : PageSize) (p : MappedPage) → is_mappable (shift_of_size size) p ≡ true
    → IsPage (page_data p) p
mappable_stated size p h =
    let a = and_parts (ltb p.logical (2 ^ (25 - shift_of_size size)) && ltb p.physical 128) (ltb p.level 4) h in
    let b = and_parts (ltb p.logical (2 ^ (25 - shift_of_size size))) (ltb p.physical 128) a.0 in
    let logical : p.logical < 2 ^ 32 = low_logical size p.logical (ltb-true _ _ b.0) in
    let physical : p.physical < 128 = ltb-true p.physical 128 b.1 in
    let level : p.level < 4 = ltb-true p.level 4 a.1 in
    page_stated p logical (omega (arith, physical)) (omega (arith, level))

pages_stated : (size : PageSize) (ps : List MappedPage) → list_all (is_mappable (shift_of_size size)) ps ≡ true
    → AllZip IsPage (map page_data ps) ps
pages_stated size [] h = tt
pages_stated size (p ∷ ps) h =
    let parts = and_parts (is_mappable (shift_of_size size) p) (list_all (is_mappable (shift_of_size size)) ps) h in
    (mappable_stated size p parts.0, pages_stated size ps parts.1)

word_stated : (w : ℕ × ℕ) → IsTrue (may_hold w.0) → w.1 < 2 ^ 32 → IsPutWord (word_data w) w
word_stated w held small =
    let found = found_in_table (word_rows w) refl in
    let ms : Members = table_of (word_rows w) in (
      known_in_table word_keys (word_rows w) refl,
      (
        at_key (codes "at") ms (number w.0) (λ e. IsPutAddress e w.0) found.0 (refl, held),
        at_key (codes "value") ms (number w.1) (λ e. IsWord e w.1) found.1.0 (refl, omega (arith, small)),
      ),
    )

put_words_stated : (ws : List (ℕ × ℕ)) → All (λ w. IsTrue (may_hold w.0)) ws → All (λ w. w.1 < 2 ^ 32) ws
    → AllZip IsPutWord (map word_data ws) ws
put_words_stated [] held small = tt
put_words_stated (w ∷ ws) held small = (
  word_stated w (held 0 w (omega arith)) (small 0 w (omega arith)),
  put_words_stated ws (λ k d lt. held (suc k) d (omega (arith, lt))) (λ k d lt. small (suc k) d (omega (arith, lt))),
)

module _ {A : Type 0} (States : Data → A → Type 0) (data_of : A → Data) (key : List ℕ) (ms : Members) where
  listed_stated : (xs : List A) → get_member key ms ≡ list_value (map data_of xs) → AllZip States (map data_of xs) xs
      → AtKeyOr key ms (xs ≡ []) (λ d. IsListOf States d xs)
  listed_stated [] there h = rw there refl
  listed_stated (x ∷ xs) there h =
      rw there (h.0, subst (λ ds. AllZip States ds xs) (sym (list_of-items_of (map data_of xs))) h.1)

-- ## The devices

number_stated : (limit n : ℕ) (key : List ℕ) (t : Members) → n ≤ limit → get_member key t ≡ unless_zero n
    → HasNumber key limit t n
number_stated limit n key t low there = elim (cases_Bool (eqb n 0)) [
  | inl none ↦ rw (there, none) (eqb-true n 0 none)
  | inr some ↦ rw (there, some) (refl, low)
]

may_number_stated : (limit : ℕ) (o : Option ℕ) (key : List ℕ) (t : Members) → IfSome o (λ n. n ≤ limit)
    → get_member key t ≡ option_map number o → MayHaveNumber key limit t o
may_number_stated limit None key t low there = rw there refl
may_number_stated limit (Some n) key t low there = rw there (refl, low)

requests_stated : (n : ℕ) (t : Members) → IsTrue (are_latched n) → get_member (codes "requests_a") t ≡ unless_zero n
    → AtKeyOr (codes "requests_a") t (n ≡ 0) (λ e. AreRequests e n)
requests_stated n t latched there = elim (cases_Bool (eqb n 0)) [
  | inl none ↦ rw (there, none) (eqb-true n 0 none)
  | inr some ↦ rw (there, some) (refl, latched)
]

-- a table that is left out where it is empty, and then states what is missing
module _ {A : Type 0} (keys : List (List ℕ)) (States : Members → A → Type 0) (missing : A) (a : A) (key : List ℕ) where
  device_stated : ((b : A) → States no_members b → b ≡ missing) → (t : Members) → has_only_keys keys t ≡ true → States t a
      → (ms : Members) → get_member key ms ≡ table_value t
      → AtKeyOr key ms (a ≡ missing) (λ d. IsTable keys (λ u. States u a) d)
  device_stated none no_members known s ms there = rw there (none a s)
  device_stated none (member k d t) known s ms there = rw there (known, s)

abbrev IocStates : Members → IocSetting → Type 0
IocStates t s =
    HasNumber (codes "mask_a") 0xFF t s.mask_a
    × HasNumber (codes "mask_b") 0xFF t s.mask_b
    × HasNumber (codes "mask_fiq") 0xFF t s.mask_fiq
    × AtKeyOr (codes "requests_a") t (s.requests_a ≡ 0) (λ e. AreRequests e s.requests_a)
    × StatesTimer (codes "timer_0") (codes "count_0") t s.timer_0
    × StatesTimer (codes "timer_1") (codes "count_1") t s.timer_1

timer_made : (t : TimerSetting) → t.latch ≡ 0 → t.count ≡ None → t ≡ record { latch = 0; count = None }
timer_made t a b i = record { latch = a i; count = b i }

ioc_missing : (s : IocSetting) → IocStates no_members s → s ≡ no_ioc
ioc_missing s h i =
    record {
      mask_a = h.0 i;
      mask_b = h.1 i;
      mask_fiq = h.2 i;
      requests_a = h.3 i;
      timer_0 = timer_made s.timer_0 h.4.0 h.4.1 i;
      timer_1 = timer_made s.timer_1 h.5.0 h.5.1 i;
    }

module _ (s : IocSetting) (range : IsIocInRange s) where
  ioc_found : Found (table_of (ioc_rows s)) (ioc_rows s)
  ioc_found = found_in_table (ioc_rows s) refl

  ioc_keys_stated : IocStates (table_of (ioc_rows s)) s
  ioc_keys_stated =
      let t : Members = table_of (ioc_rows s) in
      let timers = ioc_found.1.1.1.1 in (
        number_stated 0xFF s.mask_a (codes "mask_a") t range.mask_a ioc_found.0,
        number_stated 0xFF s.mask_b (codes "mask_b") t range.mask_b ioc_found.1.0,
        number_stated 0xFF s.mask_fiq (codes "mask_fiq") t range.mask_fiq ioc_found.1.1.0,
        requests_stated s.requests_a t range.requests_a ioc_found.1.1.1.0,
        (
          number_stated 0xFFFF s.timer_0.latch (codes "timer_0") t range.latch_0 timers.0,
          may_number_stated 0xFFFF s.timer_0.count (codes "count_0") t range.count_0 timers.1.0,
        ),
        (
          number_stated 0xFFFF s.timer_1.latch (codes "timer_1") t range.latch_1 timers.1.1.0,
          may_number_stated 0xFFFF s.timer_1.count (codes "count_1") t range.count_1 timers.1.1.1.0,
        ),
      )

  ioc_stated : (ms : Members) → get_member (codes "ioc") ms ≡ table_value (table_of (ioc_rows s))
      → AtKeyOr (codes "ioc") ms (s ≡ no_ioc) (λ d. IsIoc d s)
  ioc_stated =
      device_stated ioc_keys IocStates no_ioc s (codes "ioc") ioc_missing (table_of (ioc_rows s)) (known_in_table ioc_keys (ioc_rows s) refl) ioc_keys_stated

abbrev VidcStates : Members → VidcSetting → Type 0
VidcStates t s =
    MayHaveNumber (codes "horizontal_cycle") 0x3FF t s.horizontal_cycle
    × MayHaveNumber (codes "vertical_cycle") 0x3FF t s.vertical_cycle
    × HasNumber (codes "display_end") 0x3FF t s.display_end
    × HasNumber (codes "pixel_rate") 3 t s.pixel_rate
    × HasNumber (codes "ticks") (2 ^ 32 - 1) t s.ticks

vidc_missing : (s : VidcSetting) → VidcStates no_members s → s ≡ no_vidc
vidc_missing s h i =
    record {
      horizontal_cycle = h.0 i;
      vertical_cycle = h.1 i;
      display_end = h.2 i;
      pixel_rate = h.3 i;
      ticks = h.4 i;
    }

module _ (s : VidcSetting) (range : IsVidcInRange s) where
  vidc_found : Found (table_of (vidc_rows s)) (vidc_rows s)
  vidc_found = found_in_table (vidc_rows s) refl

  vidc_keys_stated : VidcStates (table_of (vidc_rows s)) s
  vidc_keys_stated =
      let t : Members = table_of (vidc_rows s) in
      let ticks : s.ticks < 2 ^ 32 = range.ticks in (
        may_number_stated 0x3FF s.horizontal_cycle (codes "horizontal_cycle") t range.horizontal_cycle vidc_found.0,
        may_number_stated 0x3FF s.vertical_cycle (codes "vertical_cycle") t range.vertical_cycle vidc_found.1.0,
        number_stated 0x3FF s.display_end (codes "display_end") t range.display_end vidc_found.1.1.0,
        number_stated 3 s.pixel_rate (codes "pixel_rate") t range.pixel_rate vidc_found.1.1.1.0,
        number_stated (2 ^ 32 - 1) s.ticks (codes "ticks") t (omega (arith, ticks)) vidc_found.1.1.1.1.0,
      )

  vidc_stated : (ms : Members) → get_member (codes "vidc") ms ≡ table_value (table_of (vidc_rows s))
      → AtKeyOr (codes "vidc") ms (s ≡ no_vidc) (λ d. IsVidc d s)
  vidc_stated =
      device_stated vidc_keys VidcStates no_vidc s (codes "vidc") vidc_missing (table_of (vidc_rows s)) (known_in_table vidc_keys (vidc_rows s) refl) vidc_keys_stated

-- ## The file

module _ (s : Stated) (none : s.schedule.events ≡ []) (range : IsInRange s) (once : HasNoneTwice s) (words : AreWords s) (small : All (λ w. w.1 < 2 ^ 32) s.words) (ioc_range : IsIocInRange s.ioc) (vidc_range : IsVidcInRange s.vidc) where
  abbrev ms : Members
  ms = document_of s

  found : Found ms (file_rows s)
  found = found_in_table (file_rows s) refl

  rest : Found ms (controller_rows s.controller ++ schedule_rows s.schedule ++ word_list_rows s.words ++ device_rows s.ioc s.vidc)
  rest = found.1.1.1.1

  last : Found ms (schedule_rows s.schedule ++ word_list_rows s.words ++ device_rows s.ioc s.vidc)
  last = rest.1.1.1.1

  no_events : AtKeyOr (codes "event") ms (s.schedule.events ≡ []) (λ d. IsListOf IsEvent d s.schedule.events)
  no_events = rw (missing_in_table (codes "event") (file_rows s) refl) none

  document_states : StatesMachine ms s
  document_states = record {
    known = known_in_table file_keys (file_rows s) refl;
    processor = record {
      pc = at_key (codes "pc") ms (number s.processor.pc) (λ d. IsAddress d s.processor.pc) found.0 (refl, range.pc);
      mode = at_key_or (codes "mode") ms _ (λ d. IsNamed named_mode d s.processor.mode) _ found.1.0 (mode_stated s.processor.mode);
      flags = at_key_or (codes "flags") ms _ (λ d. AreFlags d s.processor.flags) _ found.1.1.0 (flags_stated s.processor.flags);
      registers = registers_stated s.processor.registers words.count words.registers ms found.1.1.1.0;
    };
    controller = record {
      size = at_key_or (codes "pages") ms _ (λ d. IsSize d s.controller.size) _ rest.0 refl;
      low_rom = at_key_or (codes "low_rom") ms _ (λ d. IsNumber 3 d s.controller.low_rom) _ rest.1.0 (refl, range.low_rom);
      high_rom = at_key_or (codes "high_rom") ms _ (λ d. IsNumber 3 d s.controller.high_rom) _ rest.1.1.0 (refl, range.high_rom);
      pages = listed_stated IsPage page_data (codes "map") ms s.controller.pages rest.1.1.1.0 (pages_stated s.controller.size s.controller.pages range.mappable);
      mappable = range.mappable;
      pages_once = once.pages_once;
    };
    schedule = record {
      steps = at_key_or (codes "steps") ms _ (λ d. IsNumber 65536 d s.schedule.steps) _ last.0 (refl, range.steps);
      port = at_key_or (codes "port") ms _ (λ d. IsWord d s.schedule.port) _ last.1.0 (refl, omega (arith, words.port));
      events = no_events;
      steps_once = rw none refl;
    };
    words = listed_stated IsPutWord word_data (codes "word") ms s.words last.1.1.0 (put_words_stated s.words range.held small);
    words_once = once.words_once;
    ioc = ioc_stated s.ioc ioc_range ms last.1.1.1.0;
    vidc = vidc_stated s.vidc vidc_range ms last.1.1.1.1.0;
  }

  document_reads : machine_in ms ≡ Ok s
  document_reads = (machine_stated ms s).1 document_states

-- ## How deep the document is

zero_depth : (n : ℕ) → optional_depth (unless_zero n) ≤ 0
zero_depth n = elim (cases_Bool (eqb n 0)) [ inl h ↦ rw h (omega arith) | inr h ↦ rw h (omega arith) ]

register_depths : (ks : List (List ℕ)) (ws : List ℕ)
    → AllByRecursion (λ r. optional_depth r.1 ≤ 0) (map register_row (zip ks ws))
register_depths [] ws = tt
register_depths (k ∷ ks) [] = tt
register_depths (k ∷ ks) (w ∷ ws) = (zero_depth w, register_depths ks ws)

table_value_depth : (n : ℕ) (t : Members) → members_depth t ≤ n → optional_depth (table_value t) ≤ n + 1
table_value_depth n no_members h = omega arith
table_value_depth n (member k d t) h = omega (arith, h)

items_low : {A : Type 0} (data_of : A → Data) → ((a : A) → depth (data_of a) ≤ 1) → (xs : List A)
    → items_depth (items_of (map data_of xs)) ≤ 1
items_low data_of each [] = omega arith
items_low data_of each (x ∷ xs) = omega (arith, each x, items_low data_of each xs)

listed_depth : {A : Type 0} (data_of : A → Data) → ((a : A) → depth (data_of a) ≤ 1) → (xs : List A)
    → optional_depth (list_value (map data_of xs)) ≤ 2
listed_depth data_of each [] = omega arith
listed_depth data_of each (x ∷ xs) =
    omega (arith, each x, items_low data_of each xs)

page_depth : (p : MappedPage) → depth (page_data p) ≤ 1
page_depth p =
    let low : members_depth (table_of (page_rows p)) ≤ 0 = depth_of_table 0 (page_rows p) (omega arith, (omega arith, (omega arith, tt))) in
    omega (arith, low)

word_depth : (w : ℕ × ℕ) → depth (word_data w) ≤ 1
word_depth w =
    let low : members_depth (table_of (word_rows w)) ≤ 0 = depth_of_table 0 (word_rows w) (omega arith, (omega arith, tt)) in
    omega (arith, low)

some_number_depth : (o : Option ℕ) → optional_depth (option_map number o) ≤ 0
some_number_depth None = omega arith
some_number_depth (Some n) = omega arith

ioc_depth : (s : IocSetting) → optional_depth (table_value (table_of (ioc_rows s))) ≤ 1
ioc_depth s =
    table_value_depth 0 (table_of (ioc_rows s)) (depth_of_table 0 (ioc_rows s) (
      zero_depth s.mask_a,
      (
        zero_depth s.mask_b,
        (
          zero_depth s.mask_fiq,
          (
            zero_depth s.requests_a,
            (zero_depth s.timer_0.latch, (some_number_depth s.timer_0.count, (zero_depth s.timer_1.latch, (some_number_depth s.timer_1.count, tt)))),
          ),
        ),
      ),
    ))

vidc_depth : (s : VidcSetting) → optional_depth (table_value (table_of (vidc_rows s))) ≤ 1
vidc_depth s =
    table_value_depth 0 (table_of (vidc_rows s)) (depth_of_table 0 (vidc_rows s)
    (some_number_depth s.horizontal_cycle, (some_number_depth s.vertical_cycle, (zero_depth s.display_end, (zero_depth s.pixel_rate, (zero_depth s.ticks, tt))))))

document_depth : (s : Stated) → members_depth (document_of s) ≤ 2
document_depth s =
    let none : 0 ≤ 2 = omega arith in
    let registers : optional_depth (table_value (register_table s.processor.registers)) ≤ 2 = omega (arith, table_value_depth 0 (register_table s.processor.registers) (depth_of_table 0 _ (register_depths register_keys s.processor.registers))) in
    depth_of_table 2 (file_rows s) (none, (none, (none, (registers, (none, (none, (none, (listed_depth page_data page_depth s.controller.pages, (none, (none, (listed_depth word_data word_depth s.words, (omega (arith, ioc_depth s.ioc), (omega (arith, vidc_depth s.vidc), tt)))))))))))))

-- ## The text

pub text_reads : (text : List ℕ) (s : Stated) → IsUtf8 text
    → (members_depth (document_of s) ≤ 80 → parse_document text ≡ Some (document_of s))
    → s.schedule.events ≡ [] → IsInRange s → HasNoneTwice s → AreWords s → All (λ w. w.1 < 2 ^ 32) s.words
    → IsIocInRange s.ioc → IsVidcInRange s.vidc → IsMachineFile text (Ok s)
text_reads text s utf8 parsed none range once words small ioc vidc =
    inl (
      document_of s,
      record { utf8 = utf8; parsed = parsed (omega (arith, document_depth s)) },
      sym (document_reads s none range once words small ioc vidc),
    )
