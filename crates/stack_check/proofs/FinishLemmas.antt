-- What the parts of a draft mean together.
use Rattle.std.proofs.Common.{◌≡◌, ◌∙◌, not, List, ap, subst}
use Rattle.fail_script.specs.Script.{Answers}
use Rattle.stack_base.specs.declared.ids.PoolId.{PoolId}
use Rattle.stack_base.specs.declared.stack.Stack.{Stack}
use Rattle.decl_text.specs.Known.{BadOf, Declared, Declarations, Reserves, Scripted}
use Rattle.decl_text.specs.Accepting.{MeansStack, reserves_or_two}
use Rattle.stack_check.specs.Finish.{AreBuilt, shared_scripts}

pub means_from :
    (known : Declarations) (stack : Stack) (scripts : List (PoolId × Answers)) (placed : List Declared) (bad : List BadOf) (given : List Scripted) (fs : Reserves)
    → placed ≡ known.devices → bad ≡ known.bad → given ≡ known.scripts → fs ≡ reserves_or_two known.fs
    → AreBuilt placed bad stack.devices.items → stack.fs_bios ≡ fs.bios → stack.fs_vecs ≡ fs.vecs → scripts ≡ shared_scripts placed given (not known.no_memory)
    → MeansStack known stack scripts
means_from known stack scripts placed bad given fs devices_are bad_are given_are fs_is built bios vecs shared_so =
    let all : AreBuilt known.devices known.bad stack.devices.items =
    subst (λ (bs : List BadOf). AreBuilt known.devices bs stack.devices.items) bad_are
    (subst (λ (ds : List Declared). AreBuilt ds bad stack.devices.items) devices_are built) in
    record {
      devices = all.shown;
      bad = all.ranges;
      fs_bios = bios ∙ ap (λ (r : Reserves). r.bios) fs_is;
      fs_vecs = vecs ∙ ap (λ (r : Reserves). r.vecs) fs_is;
      scripts =
          shared_so ∙ ap (λ (ds : List Declared). shared_scripts ds given (not known.no_memory)) devices_are
          ∙ ap (λ (ss : List Scripted). shared_scripts known.devices ss (not known.no_memory)) given_are;
    }
