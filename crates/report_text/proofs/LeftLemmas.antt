-- What is told of what a run leaves is told of the objects with which it ended.
use Rattle.std.proofs.Common.{◌≡◌, ℕ, List, [], ◌∷◌, map, refl, ap, ◌∙◌}
use Rattle.stack_base.specs.declared.ids.DevId.{DevId}
use Rattle.stack_base.specs.declared.ids.PoolId.{PoolId}
use Rattle.stack_base.specs.declared.stack.Stack.{Stack}
use Rattle.stack_base.specs.PoolId.{pool_number}
use Rattle.mempool_core.specs.declared.Facts.{Facts}
use Rattle.model_disks.specs.Disks.{DiskState}
use Rattle.task_core.specs.declared.ended.Ended.{Ended}
use Rattle.task_core.specs.Leaving.{IsLeft, disks_of, falling_pools}
use Rattle.run_machine.specs.Objects.{Objects}
use Rattle.run_machine.specs.Opened.{device_at}
use Rattle.report_text.specs.Views.{IsEndedOfStack, image_of, told_of_objects, told_of}

module _ (objects : Objects) (named : (number : ℕ) → (objects.disk number).dev ≡ device_at number) where
  -- disks that are named by their numbers
  devs_are : (devs : List DevId) → map (λ (disk : DiskState). disk.dev) (map (λ (dev : DevId). objects.disk dev.0) devs) ≡ devs
  devs_are [] = refl
  devs_are (dev ∷ devs) = λ k. named dev.0 k ∷ devs_are devs k

  images_are : (devs : List DevId) → map image_of (map (λ (dev : DevId). objects.disk dev.0) devs) ≡ map (λ (dev : DevId). (dev, (objects.disk dev.0).image)) devs
  images_are [] = refl
  images_are (dev ∷ devs) = λ k. (named dev.0 k, (objects.disk dev.0).image) ∷ images_are devs k

  pools_are : (pools : List PoolId)
      → map (λ (p : PoolId × Facts). p.0) (map (λ (pool : PoolId). (pool, (objects.pool (pool_number pool)).facts)) pools) ≡ pools
  pools_are [] = refl
  pools_are (pool ∷ pools) = λ k. pool ∷ pools_are pools k

  -- the disks and the pools are the stack's
  pub left_of : (stack : Stack) (steps : ℕ) (ended : Ended) → IsLeft stack objects steps ended → IsEndedOfStack stack ended
  left_of stack steps ended left = record {
    disks = ap (map (λ (disk : DiskState). disk.dev)) left.disks ∙ devs_are (disks_of stack);
    pools = ap (map (λ (p : PoolId × Facts). p.0)) left.pools ∙ pools_are (falling_pools stack);
  }

  pub told_is : (stack : Stack) (steps bound : ℕ) (ended : Ended) → IsLeft stack objects steps ended → told_of ended bound ≡ told_of_objects stack objects steps bound
  told_is stack steps bound ended left =
      let disks = ap (map image_of) left.disks ∙ images_are (disks_of stack) in
      λ k. record { statuses = left.statuses k; disks = disks k; pools = left.pools k; steps = left.steps k; bound = bound }
