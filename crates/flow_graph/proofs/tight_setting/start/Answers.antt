use Rattle.std.proofs.Common.{ℕ, ◌+◌, ◌*◌, not, inl, inr, refl, arith}
use Rattle.bus_ticks.specs.declared.profile.Class.TheVariants.{Any, Fast, Io, Medium, Slow, Synchronous}
use Rattle.bus_ticks.proofs.WorstLemmas.{at_page, fast_block, medium_block, slow_block, synchronous_block}
use Rattle.flow_graph.proofs.SettingLemmas.{loads_in_rom, starts_at_device, starts_in_ram, stores_in_rom}
use Rattle.flow_graph.proofs.tight_setting.start.Goals as goal

pub returns-in-Ram : goal.returns-in-Ram
returns-in-Ram c =
    let made = c.dearest_ram_start.ensures in
    let base : ℕ = 0x2000000 + c.args.aim.now.spare * 0x8000 in
    starts_in_ram c.args.aim.now c.args.load c.args.words c.requires.some c.requires.few c.dearest_ram_start.result c.in-Ram.is c.requires.spare made.whole made.below
    (λ rom dear. made.block c.args.aim.now.profile base c.args.words (omega arith) c.requires.some (omega (arith, c.requires.spare, c.requires.few, made.below)) (not c.args.load) rom)

pub returns-in-Io : goal.returns-in-Io
returns-in-Io c =
    let made = c.dearest_device.ensures in
    starts_at_device c.args.aim.now c.args.load c.args.words c.requires.some c.requires.few c.dearest_device.result Io c.in-Io.is tt (omega (arith, made.page)) made.from (omega (arith, made.page, made.below))
    (λ rom dear. made.block c.args.words c.requires.few (not c.args.load) rom)

pub returns-in-Any : goal.returns-in-Any
returns-in-Any c =
    let made = c.dearest_device-in-Any.ensures in
    starts_at_device c.args.aim.now c.args.load c.args.words c.requires.some c.requires.few c.dearest_device-in-Any.result Any c.in-Any.is tt (omega (arith, made.page)) made.from (omega (arith, made.page, made.below))
    (λ rom dear. made.any c.args.words c.requires.few (not c.args.load) rom)

pub returns-in-Rom : goal.returns-in-Rom
returns-in-Rom c = stores_in_rom c.args.aim.now c.args.load c.args.words c.requires.some c.requires.few c.if-not-load.true c.in-Rom.is

pub returns-in-Rom-2 : goal.returns-in-Rom-2
returns-in-Rom-2 c =
    loads_in_rom c.args.aim.now c.args.load c.args.words c.requires.some c.requires.few 0x3FFFF00 c.if-not-load.false c.in-Rom-2.is refl (omega arith) (omega arith) (inr c.if-aim-lt-ROM_DATA.true)

pub returns-in-Rom-3 : goal.returns-in-Rom-3
returns-in-Rom-3 c =
    loads_in_rom c.args.aim.now c.args.load c.args.words c.requires.some c.requires.few 0x3FFFE00 c.if-not-load.false c.in-Rom-3.is refl (omega arith) (omega arith) (inl (omega (arith, c.if-aim-lt-ROM_DATA.false)))

pub returns-in-Slow : goal.returns-in-Slow
returns-in-Slow c =
    starts_at_device c.args.aim.now c.args.load c.args.words c.requires.some c.requires.few 0x3000000 Slow c.in-Slow.is tt (omega arith) (omega arith) (omega arith)
    (λ rom dear. slow_block c.args.aim.now.profile c.args.words (not c.args.load) _ (at_page Slow 0 (omega arith) (λ x d. d) c.args.words c.requires.few rom))

pub returns-in-Medium : goal.returns-in-Medium
returns-in-Medium c =
    starts_at_device c.args.aim.now c.args.load c.args.words c.requires.some c.requires.few 0x3080000 Medium c.in-Medium.is tt (omega arith) (omega arith) (omega arith)
    (λ rom dear. medium_block c.args.aim.now.profile c.args.words (not c.args.load) _ (at_page Medium 1 (omega arith) (λ x d. d) c.args.words c.requires.few rom))

pub returns-in-Fast : goal.returns-in-Fast
returns-in-Fast c =
    starts_at_device c.args.aim.now c.args.load c.args.words c.requires.some c.requires.few 0x3100000 Fast c.in-Fast.is tt (omega arith) (omega arith) (omega arith)
    (λ rom dear. fast_block c.args.aim.now.profile c.args.words (not c.args.load) _ (at_page Fast 2 (omega arith) (λ x d. d) c.args.words c.requires.few rom))

pub returns-in-Synchronous : goal.returns-in-Synchronous
returns-in-Synchronous c =
    starts_at_device c.args.aim.now c.args.load c.args.words c.requires.some c.requires.few 0x3180000 Synchronous c.in-Synchronous.is tt (omega arith) (omega arith) (omega arith)
    (λ rom dear. synchronous_block c.args.aim.now.profile c.args.words (not c.args.load) _ (at_page Synchronous 3 (omega arith) (λ x d. d) c.args.words c.requires.few rom))
