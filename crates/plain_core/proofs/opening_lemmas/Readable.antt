-- A text of which no line is refused can be opened without an object.
use Rattle.std.proofs.Common.{◌-◌}
use Rattle.std.specs.Prelude.{Contains}
use Rattle.std.proofs.lemmas.List.Elements.{All-contains_itself, All-weaker}
use Rattle.stack_base.specs.PoolId.{IsOfStack}
use Rattle.layout_model.specs.Writes.{IsWrite}
use Rattle.decl_text.specs.Accepting.{shown_devices}
use Rattle.work_text.specs.Fit.{IsPoolIn}
use Rattle.work_text.specs.declared.Resize.{Resize}
use Rattle.task_core.proofs.opened.MeantAsAsked.{fit_work, of_stack, scripts_of_stack}
use Rattle.plain_core.specs.opening.Readable.{AcceptedTextsCanOpen}

pub can_open : AcceptedTextsCanOpen
can_open accepted work read =
    let stack = accepted.stack in
    let fit = fit_work accepted work read in
    record {
      is_stack = accepted.is_stack;
      pools = scripts_of_stack stack accepted.scripts.items accepted.is_stack accepted.declared;
      resizes = All-weaker (λ (resize : Resize). IsPoolIn (shown_devices stack) resize.pool) (λ (resize : Resize). IsOfStack resize.pool)
          (λ resize is. of_stack stack accepted.is_stack resize.pool is) work.resizes.items fit.pools;
      served = All-weaker (Contains work.writes.items) (IsWrite stack) read.served work.writes.items (All-contains_itself work.writes.items);
      writers = fit.writers;
      allowed = read.reads.1.bound.allowed;
      paired = fit.paired;
    }
