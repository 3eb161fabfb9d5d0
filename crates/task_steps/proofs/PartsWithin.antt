-- The parts of a bio that is cut wait within their devices, as the legs of one do.
use Rattle.std.proofs.Common.{◌≡◌, ℕ, sym, subst}
use Rattle.stack_base.specs.declared.ids.SetId.TheVariants.{Of}
use Rattle.stack_base.specs.declared.stack.Stack.{Stack}
use Rattle.bio_records.specs.declared.bio.Bio.{Bio}
use Rattle.bio_records.specs.declared.bio.Pad.{Pad}
use Rattle.bio_records.specs.declared.tasks.TaskLists.{TaskLists}
use Rattle.bio_records.specs.Items.{Item}
use Rattle.bio_split.specs.Split.{split_front, split_rest}
use Rattle.bio_lists.specs.Submission.{submitted}
use Rattle.task_steps.specs.declared.routes.Cut.{Cut}
use Rattle.run_machine.specs.Scene.{Setup}
use Rattle.task_steps.specs.Within.{IsWithinDevice, IsItemWithin, ListsAreWithin}
use Rattle.task_steps.specs.Routed.{sent, IsCutAt}
use Rattle.task_steps.proofs.Waiting.{BothHave, all_submitted}

-- one more that is within
pub one_within : (stack : Stack) (item : Item Pad) (lists after : TaskLists) → IsWithinDevice stack item.bio → ListsAreWithin stack lists
    → after ≡ submitted item lists → ListsAreWithin stack after
one_within stack item lists after own all e =
    let P : Item Pad → Type 0 = IsItemWithin stack in
    subst (BothHave P) (sym e) (all_submitted P lists all item own)

-- both parts
pub both_within : (stack : Stack) (setup : Setup) (item hand : Item Pad) (node : ℕ) (cut : Cut) (bio : Bio) → bio ≡ item.bio → IsCutAt setup stack bio cut
    → (lists middle after : TaskLists) (child rest : Item Pad) → ListsAreWithin stack lists
    → child ≡ sent cut (split_front item hand cut.sectors (Of item.bio.dev) node) → rest ≡ split_rest item cut.sectors
    → middle ≡ submitted child lists → after ≡ submitted rest middle → ListsAreWithin stack after
both_within stack setup item hand node cut bio same at lists middle after child rest all child_is rest_is first second =
    let P : Item Pad → Type 0 = IsItemWithin stack in
    let is : IsCutAt setup stack item.bio cut = subst (λ b. IsCutAt setup stack b cut) same at in
    let w = is.within in
    let r = is.rest in
    one_within stack rest middle after
    (subst P (sym rest_is) (record { device = r.device; some = r.some; within = r.within }))
    (one_within stack child lists middle (subst P (sym child_is) (record { device = w.device; some = w.some; within = w.within })) all first)
    second
