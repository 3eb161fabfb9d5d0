use Rattle.std.proofs.Common.{◌≡◌, ◌+◌, ◌∷◌, ◌++◌, [], List, get_or, take, drop, map, ap, sym, subst, refl, ◌∙◌, unwrap_or, arith}
use Rattle.std.specs.Option.{option_map}
use Rattle.std.proofs.lemmas.List.{drop_more, map_more}
use Rattle.fail_script.specs.Script.{Answers, only_tail}
use Rattle.stack_base.specs.PoolId.{pool_number}
use Rattle.stack_base.specs.declared.ids.PoolId.{PoolId}
use Rattle.stack_base.specs.declared.ids.PoolId.TheVariants.{FsBios}
use Rattle.decl_text.specs.Known.{Scripted}
use Rattle.stack_check.specs.Finish.{script_among}
use Rattle.stack_check.proofs.PoolLemmas.{IsFalling, pools_fall}
use Rattle.stack_check.proofs.shared.share.Goals as goal

pub loop-pool-init : goal.loop-pool-init
loop-pool-init c =
    record {
      done = c.new-shared.ensures.items;
      small = c.requires.small;
      left = (
        66,
        omega arith,
        subst (IsFalling 66) (sym (c.deref-pool-items.ensures.value ∙ c.in_ok-pools.ensures)) (pools_fall c.args.placed.now c.requires.few),
        λ other lt. refl,
      );
    }

pub loop-pool-preserved : goal.loop-pool-preserved
loop-pool-preserved c =
    let xs = c.deref-pool-items.result.now in
    let i = c.loop-pool.pool-index in
    let pool : PoolId = get_or xs i FsBios in
    let left = c.loop-pool.invariant.left in
    let next : IsFalling left.0 (pool ∷ drop (i + 1) xs) = subst (IsFalling left.0) (drop_more xs i FsBios c.loop-pool-test.true) left.2 in
    let first = c.args.given.items in
    let entry : PoolId → PoolId × Answers = λ p. (p, script_among first c.args.tail p) in
    let same : c.take_script-script.result ≡ script_among first c.args.tail pool =
    c.take_script-script.ensures.script
    ∙ ap (λ o. unwrap_or (option_map (λ (s : Scripted). s.script) o) (only_tail c.args.tail)) (left.3 pool next.0) in
    record {
      done =
          c.in_ok-push.ensures.items
          ∙ ap (λ (ys : List (PoolId × Answers)). ys ++ (pool, c.take_script-script.result) ∷ []) c.loop-pool.invariant.done
          ∙ ap (λ (script : Answers). map entry (take i xs) ++ (pool, script) ∷ []) same
          ∙ sym (map_more entry xs i FsBios c.loop-pool-test.true);
      small = c.take_script-script.ensures.small;
      left = (
        pool_number pool,
        omega (arith, next.0, left.1),
        next.1,
        λ other lt. c.take_script-script.ensures.others other (λ is. omega arith) ∙ left.3 other (omega (arith, next.0)),
      );
    }
