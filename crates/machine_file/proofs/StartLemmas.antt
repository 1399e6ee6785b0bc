-- Registers that are set one after another.
use Rattle.std.proofs.Common.{◌≡◌, ℕ, ◌+◌, ◌<◌, ◌≤◌, List, [], ◌∷◌, ◌++◌, length, map, take, drop, sym, ap, ◌∙◌, arith, append_assoc}
use Rattle.std.specs.Prelude.{replicate, slice_index_or, slice_set}
use Rattle.std.specs.List.{range_with_len}
use Rattle.std.proofs.Math.Seq.{set-append_seam}
use Rattle.std.proofs.lemmas.List.{drop_more, get_or-map, length-take-le, take_more}
use Rattle.std.proofs.lemmas.List.FromFn.{get_or-range_with_len}
use Rattle.arm2_effect.specs.Modes.{reg_number}
use Rattle.arm2_effect.specs.declared.modes.Reg.{Reg}
use Rattle.arm2_effect.specs.declared.modes.Reg.TheVariants.{R15}
use Rattle.arm2_exec.specs.State.{IsReset, State, reset_r15, with_register_of}
use Rattle.bus_ticks.specs.declared.profile.Profile.{Profile}
use Rattle.memc.specs.Memory.{Memory}
use Rattle.ioc.specs.Interrupts as ioc
use Rattle.ioc.specs.Interrupts.{Controller}
use Rattle.vidc.specs.Video as vidc
use Rattle.vidc.specs.Video.{Video}
use Rattle.machine_file.specs.Started.{IsController, IsStarted, ioc_start, r15_in, vidc_start}
use Rattle.machine_file.specs.StartWork.{with_words}
use Rattle.machine_file.specs.Stated.{Stated}

set_next : (ws old : List ℕ) (i : ℕ) → i < length ws → length ws ≤ length old → slice_set (take i ws ++ drop (length (take i ws)) old) i (slice_index_or ws i 0) ≡ take (i + 1) ws ++ drop (length (take (i + 1) ws)) old
set_next ws old i lt room =
    let here : length (take i ws) ≡ i = length-take-le i ws (omega arith) in
    let next : length (take (i + 1) ws) ≡ i + 1 = length-take-le (i + 1) ws (omega arith) in
    let small : i < length old = omega arith in
    let x : ℕ = slice_index_or ws i 0 in
    ap (λ (k : ℕ). slice_set (take i ws ++ drop k old) i x) here
    ∙ ap (λ ys. slice_set (take i ws ++ ys) i x) (drop_more old i 0 small)
    ∙ ap (λ (k : ℕ). slice_set (take i ws ++ slice_index_or old i 0 ∷ drop (i + 1) old) k x) (sym here)
    ∙ set-append_seam (take i ws) (slice_index_or old i 0) (drop (i + 1) old) x
    ∙ sym (append_assoc (take i ws) (x ∷ []) (drop (i + 1) old))
    ∙ ap (λ zs. zs ++ drop (i + 1) old) (sym (take_more ws i 0 lt))
    ∙ ap (λ (k : ℕ). take (i + 1) ws ++ drop k old) (sym next)

pub words_next : (rs : List Reg) (ws : List ℕ) (d : Reg) (i : ℕ) (s m n : State) → map reg_number rs ≡ range_with_len 0 (length rs) → length ws ≤ length rs → length ws ≤ length s.regs → i < length ws → m ≡ with_words (take i ws) s → n ≡ with_register_of (slice_index_or rs i d) (slice_index_or ws i 0) m → n ≡ with_words (take (i + 1) ws) s
words_next rs ws d i s m n ordered known room lt before set =
    let named : i < length rs = omega arith in
    let number : reg_number (slice_index_or rs i d) ≡ i =
    sym (get_or-map reg_number rs i d 0 named) ∙ ap (λ xs. slice_index_or xs i 0) ordered ∙ get_or-range_with_len 0 (length rs) i 0 named ∙ (let z : 0 + i ≡ i = omega arith in z) in
    let x : ℕ = slice_index_or ws i 0 in
    set
    ∙ ap (with_register_of (slice_index_or rs i d) x) before
    ∙ ap (λ regs. let t : State = record s { regs = regs } in t) (ap (λ (k : ℕ). slice_set (take i ws ++ drop (length (take i ws)) s.regs) k x) number ∙ set_next ws s.regs i lt room)

-- ## The whole machine

-- the last of 27 registers
last_set : (words regs : List ℕ) (r15 : ℕ) → length words ≡ 26 → regs ≡ replicate 26 0 ++ reset_r15 ∷ [] → slice_set (words ++ drop (length words) regs) 26 r15 ≡ words ++ r15 ∷ []
last_set words regs r15 count is =
    ap (λ (k : ℕ). slice_set (words ++ drop k regs) 26 r15) count
    ∙ ap (λ rs. slice_set (words ++ drop 26 rs) 26 r15) is
    ∙ ap (λ (k : ℕ). slice_set (words ++ reset_r15 ∷ []) k r15) (sym count)
    ∙ set-append_seam words reset_r15 [] r15

pub started : (file : Stated) (profile : Profile) (shift r15 : ℕ) (words : List ℕ) (fresh filled whole : State) (memc : Memory) (io : Controller) (video : Video) → IsReset shift profile fresh → filled ≡ with_words words fresh → whole ≡ with_register_of R15 r15 filled → words ≡ file.processor.registers → length words ≡ 26 → r15 ≡ r15_in file.processor → IsController file.controller memc → io ≡ ioc_start file.ioc → video ≡ vidc_start file.vidc → IsStarted file profile (record { regs = whole.regs; bus = record { memc = memc; ioc = io; vidc = video }; profile = whole.profile })
started file profile shift r15 words fresh filled whole memc io video reset fill set words_are count r15_is controller ioc_is vidc_is =
    let is : whole ≡ with_register_of R15 r15 (with_words words fresh) = set ∙ ap (with_register_of R15 r15) fill in
    record {
      registers = ap (λ (s : State). s.regs) is ∙ last_set words fresh.regs r15 count reset.regs ∙ (λ i. words_are i ++ r15_is i ∷ []);
      memory = controller;
      ioc = ioc_is;
      vidc = vidc_is;
      prices = ap (λ (s : State). s.profile) is ∙ reset.prices;
    }

-- the registers alone have been set
pub devices_kept : (shift r15 : ℕ) (words : List ℕ) (profile : Profile) (start filled whole : State) → IsReset shift profile start → filled ≡ with_words words start → whole ≡ with_register_of R15 r15 filled → (whole.bus.ioc ≡ ioc.fresh) × (whole.bus.vidc ≡ vidc.fresh)
devices_kept shift r15 words profile start filled whole reset fill set =
    let is : whole ≡ with_register_of R15 r15 (with_words words start) = set ∙ ap (with_register_of R15 r15) fill in
    (ap (λ (s : State). s.bus.ioc) is ∙ reset.ioc, ap (λ (s : State). s.bus.vidc) is ∙ reset.vidc)
