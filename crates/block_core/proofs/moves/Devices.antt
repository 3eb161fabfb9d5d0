-- What is known of the devices of a stack.
use Rattle.std.proofs.Common.{ℕ}
use Rattle.block_core.proofs.moves.Geometry.{lands, cuts, legs, copied}
use Rattle.block_core.proofs.sound.Orders.{DeviceGeometry}
use Rattle.stack_base.specs.declared.stack.Stack.{Stack}
use Rattle.stack_base.specs.Stack.{IsStack}
use Rattle.run_machine.specs.Scene.{setup_of}

pub ground : (stack : Stack) → IsStack stack → (places : ℕ → ℕ) → DeviceGeometry (setup_of stack places)
ground stack good places = record {
  few = good.few;
  lands = lands stack good places;
  cut_piece = λ bio hand key number kind sizes members there at is.
      let c = cuts stack good places bio hand key number kind sizes members there at is in (c.piece_there, c.low, c.rest_there);
  leg = λ bio hand leg key there lt. let l = legs stack good places bio hand leg key there lt in (l.there, l.low, l.set, l.share);
  copied = copied stack good places;
}
