-- Where a transfer is neither out of space nor in fault, its words are moved.
use Rattle.std.proofs.Common.{◌≡◌, ℕ, ◌^◌, ◌<◌, Bool, true, not, nat_lt, if◌then◌else◌, List, Result, Ok, sym, ◌∙◌, ap, arith}
use Rattle.std.proofs.lemmas.Bool.Decides.{nat_tests}
use Rattle.memc.specs.Memory.{located}
use Rattle.memc.specs.declared.spots.Spot.{Spot}
use Rattle.arm2_decode.specs.declared.instr.Block.{Block}
use Rattle.arm2_effect.specs.declared.modes.Mode.{Mode}
use Rattle.arm2_effect.specs.Modes.{r15_in, is_user}
use Rattle.arm2_effect.specs.ProgramCounter.{mode_of}
use Rattle.arm2_transfer.specs.declared.bus.Bus.{Bus}
use Rattle.arm2_transfer.specs.declared.single_fields.Single.{Single}
use Rattle.arm2_transfer.specs.declared.span.Span.{Span}
use Rattle.arm2_transfer.specs.declared.words.Move.{Move}
use Rattle.arm2_transfer.specs.declared.words.TransferFault.{TransferFault}
use Rattle.arm2_decode.specs.Transfers.{registers_in}
use Rattle.arm2_transfer.specs.Words.{or_fault, words_from, verdict_of}
use Rattle.arm2_transfer.specs.Moved.{out_of_space}
use Rattle.arm2_transfer.specs.Single.{address_for, has_user_rights, single_loads, single_stores, single_carried_out, single_by, single_at}
use Rattle.arm2_transfer.specs.Block.{block_loads, block_stores, block_carried_out, block_by, block_at}

in_space : (address : ℕ) → address < 2 ^ 26 → nat_lt address (2 ^ 26) ≡ true
in_space address below = grind (arith, nat_tests)

pub single_at-moves : (x : Single) (base port address : ℕ) (user load : Bool) (mode : Mode) (r : ℕ) (found : Result Spot TransferFault) (spot : Spot) (regs : List ℕ) (bus : Bus) →
    r ≡ r15_in regs → mode ≡ mode_of r → user ≡ has_user_rights x mode → address ≡ address_for x base → address < 2 ^ 26 → x.load ≡ load →
    found ≡ or_fault (located bus.memc address user (not x.load)) → found ≡ Ok spot →
    single_at x base port regs bus ≡ (if load then single_loads x base port spot regs bus else single_stores x base spot regs bus)
unfolding single_at single_by single_carried_out
single_at-moves x base port address user load mode r found spot regs bus program_counter in_mode rights here below way is ok =
    let at : or_fault (located bus.memc (address_for x base) user (not x.load)) ≡ Ok spot = ap (λ (a : ℕ). or_fault (located bus.memc a user (not x.load))) (sym here) ∙ sym is ∙ ok in
    let same : has_user_rights x (mode_of (r15_in regs)) ≡ user = ap (λ (n : ℕ). has_user_rights x (mode_of n)) (sym program_counter) ∙ ap (λ (m : Mode). has_user_rights x m) (sym in_mode) ∙ sym rights in
    let all : or_fault (located bus.memc (address_for x base) (has_user_rights x (mode_of (r15_in regs))) (not x.load)) ≡ Ok spot
    = ap (λ (u : Bool). or_fault (located bus.memc (address_for x base) u (not x.load))) same ∙ at in
    let test : nat_lt (address_for x base) (2 ^ 26) ≡ true = ap (λ (a : ℕ). nat_lt a (2 ^ 26)) (sym here) ∙ in_space address below in
    ap (λ (b : Bool). if b then single_by x base port (or_fault (located bus.memc (address_for x base) (has_user_rights x (mode_of (r15_in regs))) (not x.load))) regs bus else out_of_space regs bus) test
    ∙ ap (λ (v : Result Spot TransferFault). single_by x base port v regs bus) all
    ∙ ap (λ (b : Bool). if b then single_loads x base port spot regs bus else single_stores x base spot regs bus) way

pub block_at-moves : (x : Block) (span : Span) (port : ℕ) (user load : Bool) (mode : Mode) (r : ℕ) (moves : List Move) (regs : List ℕ) (bus : Bus) →
    r ≡ r15_in regs → mode ≡ mode_of r → user ≡ is_user mode → span.lowest < 2 ^ 26 → x.load ≡ load →
    verdict_of (words_from bus.memc user (not x.load) span.lowest 0 (registers_in x.list)) ≡ Ok moves →
    block_at x span port regs bus ≡ (if load then block_loads x span port moves regs bus else block_stores x span moves regs bus)
unfolding block_at block_by block_carried_out
block_at-moves x span port user load mode r moves regs bus program_counter in_mode rights below way is =
    let same : is_user (mode_of (r15_in regs)) ≡ user = ap (λ (n : ℕ). is_user (mode_of n)) (sym program_counter) ∙ ap (λ (m : Mode). is_user m) (sym in_mode) ∙ sym rights in
    let all : verdict_of (words_from bus.memc (is_user (mode_of (r15_in regs))) (not x.load) span.lowest 0 (registers_in x.list)) ≡ Ok moves
    = ap (λ (u : Bool). verdict_of (words_from bus.memc u (not x.load) span.lowest 0 (registers_in x.list))) same ∙ is in
    ap (λ (b : Bool). if b then block_by x span port (verdict_of (words_from bus.memc (is_user (mode_of (r15_in regs))) (not x.load) span.lowest 0 (registers_in x.list))) regs bus else out_of_space regs bus) (in_space span.lowest below)
    ∙ ap (λ (v : Result (List Move) TransferFault). block_by x span port v regs bus) all
    ∙ ap (λ (b : Bool). if b then block_loads x span port moves regs bus else block_stores x span moves regs bus) way
