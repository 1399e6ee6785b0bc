use Rattle.std.proofs.Common.{◌≡◌, ℕ, slice_index_or, Some, None, sym, ap, ◌∙◌, arith}
use Rattle.std.proofs.lemmas.List.{get_or_read}
use Rattle.std.proofs.lemmas.Option.{none-some, same_Some}
use Rattle.memc.specs.declared.pages.Entry.{Entry}
use Rattle.memc.specs.Paged.{Paged, unmapped}
use Rattle.memc.specs.Table.{Sized}
use Rattle.memc.proofs.Inverse.{unmap_keeps, there, taken, not_taken}
use Rattle.memc.proofs.pages.Pages.unmap.Goals as goal

pub index_mut-requires : goal.index_mut-requires
index_mut-requires c =
    let read : slice_index_or c.self.inside.held.items c.args.physical None ≡ Some c.in-Some.logical = sym (get_or_read c.self.inside.held.items c.args.physical c.index.result.now (omega (arith, c.self.invariant.places)) c.index.ensures None) ∙ c.in-Some.is in
    let e : (e : Entry) × (slice_index_or c.self.inside.table.items c.in-Some.logical None ≡ Some e) × (e.physical ≡ c.args.physical) = c.self.invariant.holds c.args.physical c.in-Some.logical read in
    omega (arith, there c.self.inside.table.items c.in-Some.logical e.0 e.1, c.self.inside.table.ok)

pub invariant_of-self : goal.invariant_of-self
invariant_of-self c =
    let read : slice_index_or c.self.inside.held.items c.args.physical None ≡ Some c.in-Some.logical = sym (get_or_read c.self.inside.held.items c.args.physical c.index.result.now (omega (arith, c.self.invariant.places)) c.index.ensures None) ∙ c.in-Some.is in
    unmap_keeps c.self.inside.shift c.self.inside.words.items c.self.inside.table.items c.self.inside.held.items c.self.invariant c.args.physical c.in-Some.logical read

pub returns-in-Some : goal.returns-in-Some
returns-in-Some c =
    let read : slice_index_or c.self.inside.held.items c.args.physical None ≡ Some c.in-Some.logical = sym (get_or_read c.self.inside.held.items c.args.physical c.index.result.now (omega (arith, c.self.invariant.places)) c.index.ensures None) ∙ c.in-Some.is in
    let e : (e : Entry) × (slice_index_or c.self.inside.table.items c.in-Some.logical None ≡ Some e) × (e.physical ≡ c.args.physical) = c.self.invariant.holds c.args.physical c.in-Some.logical read in
    ap (λ (p : Paged). let s : Sized = record { shift = c.self.inside.shift; paged = p } in s)
    (taken c.self.inside.words.items c.self.inside.table.items c.args.physical c.in-Some.logical e.0 e.1 e.2 (λ l f is on. same_Some l c.in-Some.logical (sym (c.self.invariant.held_by l f is) ∙ ap (λ (p : ℕ). slice_index_or c.self.inside.held.items p None) on ∙ read)))
    ∙ ap (λ (s : Sized). record s { paged = unmapped c.args.physical s.paged }) c.self.view_is

pub returns-in_default : goal.returns-in_default
returns-in_default c =
    let read : slice_index_or c.self.inside.held.items c.args.physical None ≡ None = sym (get_or_read c.self.inside.held.items c.args.physical c.index.result.now (omega (arith, c.self.invariant.places)) c.index.ensures None) ∙ c.in_default.is in
    sym c.self.view_is
    ∙ ap (λ (p : Paged). let s : Sized = record { shift = c.self.inside.shift; paged = p } in s)
    (not_taken c.self.inside.words.items c.self.inside.table.items c.args.physical (record { none = λ l f is on. none-some l (sym read ∙ ap (λ (p : ℕ). slice_index_or c.self.inside.held.items p None) (sym on) ∙ c.self.invariant.held_by l f is) }))
    ∙ ap (λ (s : Sized). record s { paged = unmapped c.args.physical s.paged }) c.self.view_is
