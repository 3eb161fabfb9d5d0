use Rattle.std.proofs.Common.{◌≡◌, ◌<◌, ◌||◌, ◌∷◌, [], ◌++◌, ℕ, List, length, map, ap, subst, sym, ◌∙◌}
use Rattle.std.specs.Prelude.{All}
use Rattle.std.proofs.lemmas.List.{length-map}
use Rattle.stack_base.specs.declared.ids.DevId.{DevId}
use Rattle.decl_text.specs.Checks.{has_count}
use Rattle.decl_text.specs.Known.{Declarations, Declared, after, declared, number_in}
use Rattle.decl_text.specs.declared.item.Item.TheVariants as item
use Rattle.stack_check.specs.Rows.{device_reason}
use Rattle.stack_check.specs.Sound.{AreSound}
use Rattle.stack_check.proofs.BadLemmas.{of_disks_push}
use Rattle.stack_check.proofs.Chains.{device_chain}
use Rattle.stack_check.proofs.DeviceLemmas.{names_known}
use Rattle.stack_check.proofs.Passing.{device_passes, sound_push}
use Rattle.stack_check.proofs.draft.Draft.add_device.Goals as goal

pub returns-in-Some : goal.returns-in-Some
returns-in-Some c =
    let a = c.args in
    device_chain a.loose a.self.now a.name a.what a.names.now a.reserve a.rescuer
    ∙ ap (λ ds. device_reason ds a.name a.what a.names.now a.reserve (a.loose || a.rescuer)) (sym (ap (λ (k : Declarations). k.devices) c.self.view_is))
    ∙ ap (device_reason c.self.inside.devices a.name a.what a.names.now a.reserve) (sym c.is_helped-helped.ensures)
    ∙ sym c.reason.ensures ∙ c.in-Some.is

pub size_over-capacity-requires-clause-count : goal.size_over-capacity-requires-clause-count
size_over-capacity-requires-clause-count c =
    let a = c.args in
    let number = λ (m : DevId). m.0 in
    let devices = c.self.inside.devices in
    let passes = device_passes devices a.name a.what a.names.now a.reserve c.is_helped-helped.result (sym c.reason.ensures ∙ c.in_default.is) in
    let many : length c.deref.result.now ≡ length a.names.now =
    ap length c.deref.ensures.0 ∙ sym (length-map c.numbers-members.result.items number) ∙ ap length c.numbers-members.ensures
    ∙ length-map a.names.now (number_in devices) in
    ap (has_count a.what) many ∙ passes.count

pub size_over-capacity-requires-clause-known : goal.size_over-capacity-requires-clause-known
size_over-capacity-requires-clause-known c =
    let a = c.args in
    let devices = c.self.inside.devices in
    let passes = device_passes devices a.name a.what a.names.now a.reserve c.is_helped-helped.result (sym c.reason.ensures ∙ c.in_default.is) in
    subst (All (λ n. n < length devices)) (sym (ap (map (λ (m : DevId). m.0)) c.deref.ensures.0 ∙ c.numbers-members.ensures))
    (names_known devices a.names.now passes.known)

pub push-requires-clause-sound : goal.push-requires-clause-sound
push-requires-clause-sound c =
    let a = c.args in
    let devices = c.self.inside.devices in
    let passes = device_passes devices a.name a.what a.names.now a.reserve c.is_helped-helped.result (sym c.reason.ensures ∙ c.in_default.is) in
    subst (λ (members : List ℕ). AreSound (devices ++ record { name = a.name; what = a.what; members = members; reserve = a.reserve; rescuer = a.rescuer } ∷ []))
    (sym c.numbers-members.ensures)
    (sound_push devices a.name a.what a.names.now a.reserve a.rescuer c.size_over-capacity.ensures.sound c.requires.0 c.requires.1 passes)

pub invariant_of-self-2 : goal.invariant_of-self-2
invariant_of-self-2 c = (of_disks_push c.self.inside.devices _ c.self.inside.bad.items c.push.new.self c.in_ok-push.ensures c.self.invariant.0, c.self.invariant.1)

pub returns : goal.returns
returns c =
    let a = c.args in
    let inside = c.self.inside in
    let devices = inside.devices in
    let line = item.Device a.name a.what a.names.now a.reserve a.rescuer in
    let grown : c.push.new.self ≡ devices ++ declared devices a.name a.what a.names.now a.reserve a.rescuer ∷ [] =
    c.in_ok-push.ensures
    ∙ ap (λ (members : List ℕ). devices ++ record { name = a.name; what = a.what; members = members; reserve = a.reserve; rescuer = a.rescuer } ∷ []) c.numbers-members.ensures in (
      device_chain a.loose a.self.now a.name a.what a.names.now a.reserve a.rescuer
          ∙ ap (λ ds. device_reason ds a.name a.what a.names.now a.reserve (a.loose || a.rescuer)) (sym (ap (λ (k : Declarations). k.devices) c.self.view_is))
          ∙ ap (device_reason c.self.inside.devices a.name a.what a.names.now a.reserve) (sym c.is_helped-helped.ensures)
          ∙ sym c.reason.ensures ∙ c.in_default.is,
      ap (λ (ds : List Declared). record { devices = ds; fs = inside.fs; bad = inside.bad.items; scripts = inside.scripts; no_memory = inside.no_memory; writes = []; rounds = []; syncs = 0; resizes = [] }) grown
          ∙ ap (λ (k : Declarations). after k line) c.self.view_is,
    )
