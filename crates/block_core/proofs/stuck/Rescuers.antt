-- Where each mirror of two members or more has a rescuer, so has each bio that is copied twice.
use Rattle.std.proofs.Common.{◌≡◌, ℕ, true, length, map, Some, inl, refl, ◌∙◌, ap, arith}
use Rattle.std.specs.Prelude.{slice_get}
use Rattle.stack_base.specs.declared.ids.DevId.{DevId}
use Rattle.stack_base.specs.declared.stack.Kind.{Kind}
use Rattle.stack_base.specs.Tree.{Tree, size}
use Rattle.run_machine.specs.Scene.{Scene}
use Rattle.run_machine.specs.Submissions.{legs_of}
use Rattle.run_machine.specs.Tasks.{TaskState, Writer, Rescuer, Completer, Keeper}
use Rattle.run_machine.specs.Runs.{State}
use Rattle.std.proofs.lemmas.List.{length-map}
use Rattle.stack_base.specs.declared.stack.Device.{Device}
use Rattle.stack_base.specs.declared.stack.Kind.TheVariants as kind
use Rattle.stack_base.specs.declared.stack.Stack.{Stack}
use Rattle.stack_base.specs.Stack.{IsStack, HasRescuers}
use Rattle.stack_base.specs.Tree.{shape_of, tree}
use Rattle.layout_model.proofs.ByShape.{cuts_is, copies_is, keeps_is}
use Rattle.run_machine.specs.Scene.{setup_of, rescuer_at}
use Rattle.block_core.proofs.moves.Geometry.{at_device}
use Rattle.block_core.proofs.stuck.Waits.{TaskWaits, Waits, AreRescued}
use Rattle.block_core.proofs.start.InvariantAtStart.{Begins, IsStartState}

module _ (stack : Stack) (good : IsStack stack) (places : ℕ → ℕ) (rescuers : HasRescuers stack) where
  pub are_rescued : AreRescued (setup_of stack places)
  are_rescued bio there many =
      let d = at_device stack good places bio.dev.0 there.device in
      by_kind d.0 d.1 d.0.kind refl
    where
      none : (other : Tree) → tree stack bio.dev.0 ≡ other → legs_of other ≡ 0 → (setup_of stack places).rescuer bio.dev.0 ≡ true
      none other is zero_legs = absurd (let q : legs_of (tree stack bio.dev.0) ≡ 0 = ap legs_of is ∙ zero_legs in omega (arith, many, q))

      by_kind : (device : Device) → slice_get stack.devices.items bio.dev.0 ≡ Some device → (k : Kind) → device.kind ≡ k
          → (setup_of stack places).rescuer bio.dev.0 ≡ true
      by_kind device found (kind.Disk sectors bad) is = none _ (keeps_is stack good bio.dev.0 device found sectors (ap shape_of is)) refl
      by_kind device found kind.Linear is = none _ (cuts_is stack good bio.dev.0 device found (ap shape_of is)) refl
      by_kind device found (kind.Stripe chunk) is = none _ (cuts_is stack good bio.dev.0 device found (ap shape_of is)) refl
      by_kind device found (kind.Zoned chunk) is = none _ (cuts_is stack good bio.dev.0 device found (ap shape_of is)) refl
      by_kind device found (kind.Limit longest chunk) is = none _ (cuts_is stack good bio.dev.0 device found (ap shape_of is)) refl
      by_kind device found (kind.Mirror records) is =
          let legs : legs_of (tree stack bio.dev.0) ≡ length (map (λ (m : DevId). size (tree stack m.0)) device.members.items) =
          ap legs_of (copies_is stack good bio.dev.0 device found (ap shape_of is)) in
          let own : device.rescuer ≡ true = rescuers bio.dev.0 records device found is (omega (arith, many, legs, length-map device.members.items (λ (m : DevId). size (tree stack m.0)))) in
          ap rescuer_at found ∙ own

-- nothing waits at the start
pub opened_waits : (scene : Scene) (s : State) → IsStartState scene s → Waits scene.setup s
opened_waits scene s o = record { tasks = λ place. begins_wait (s.task place) (o.tasks place); rescued = λ dev. inl (o.rescued dev) }
  where
    begins_wait : (x : TaskState) → Begins scene x → TaskWaits scene.setup x
    begins_wait (Writer number todo taken submission) h = rw (h.2) tt
    begins_wait (Rescuer dev submission) h = rw (h.1) tt
    begins_wait (Completer disk carried) h = tt
    begins_wait (Keeper keeping) h = tt
