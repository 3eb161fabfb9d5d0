-- Stacks that are written out for examples, and when a text says a scenario.
use Rattle.std.proofs.Common.{◌≡◌, ◌≤◌, ◌==◌, ◌^◌, ℕ, zero, suc, Bool, IsTrue, nat_lt, List, [], ◌∷◌, length, map, filter, slice_get, None, Some, refl, ap, ◌∙◌, subst, arith, false}
use Rattle.std.proofs.lemmas.Bool.{ltb-true}
use Rattle.std.proofs.lemmas.Option.{none-some, same_Some}
use Rattle.std.specs.Global.{Global, Vec}
use denote.RawPtr.{null_ptr}
use Rattle.stack_base.specs.declared.ids.PoolId.{PoolId}
use Rattle.stack_base.specs.declared.stack.Kind.{Kind}
use Rattle.stack_base.specs.declared.stack.Kind.TheVariants.{Disk}
use Rattle.stack_base.specs.declared.stack.Device.{Device}
use Rattle.stack_base.specs.declared.stack.Stack.{Stack}
use Rattle.stack_base.specs.Fault.{bads_of_kind}
use Rattle.fail_script.specs.Script.{Answers}
use Rattle.decl_text.specs.Known.{BadOf, Change, Declared, Declarations, Written}
use Rattle.decl_text.specs.Accepting.{MeansStack, reserves_or_two, scripts_of, shown_devices}
use Rattle.work_text.specs.Work.{as_written, last_round, kept_resizes}
use Rattle.work_text.specs.Whole.{text_refusal, known_of_text}
use Rattle.run_machine.specs.Opened.{Scenario, device_at}

pub itself : (n : ℕ) → n ≤ n
itself n = omega arith

module _ (memory : Global) where
  -- a vector of these elements, which are few
  abbrev pub vector : {X : Type 0} (items : List X) → IsTrue (nat_lt (length items) (2 ^ 63)) → Vec X
  vector items few = record {
    ptr = null_ptr;
    len = length items;
    cap = length items;
    alloc = memory;
    items = items;
    ok = (refl, itself (length items));
    small = ltb-true (length items) (2 ^ 63) few;
  }

  -- a device of this name over members of these numbers
  abbrev pub device : List ℕ → Kind → List ℕ → ℕ → Bool → Device
  device name kind members reserve rescuer = record {
    name = record { bytes = name; spare = [] };
    kind = kind;
    members = record { items = map device_at members };
    reserve = reserve;
    rescuer = rescuer;
  }

  -- a disk without bad ranges
  abbrev pub disk : List ℕ → ℕ → Device
  disk name sectors = device name (Disk sectors (vector [] refl)) [] 0 false

  -- these devices of these sizes, where the writers' pools have this reserve
  abbrev pub stack_of : (devices : List Device) → IsTrue (nat_lt (length devices) (2 ^ 63)) → List ℕ → ℕ → Stack
  stack_of devices few sizes reserve = record {
    devices = vector devices few;
    sizes = record { items = sizes };
    fs_bios = reserve;
    fs_vecs = reserve;
  }

-- No line of the text is refused, and they say this scenario.
pub record SaysScenario (text : List ℕ) (s : Scenario) : Type 0 where
  pub right : text_refusal text ≡ None
  pub means : MeansStack (known_of_text text) s.stack s.scripts
  pub writes : map as_written s.writes ≡ (known_of_text text).writes
  pub rounds : s.rounds ≡ (known_of_text text).rounds
  pub changes : s.changes ≡ kept_resizes (last_round (known_of_text text).rounds) (known_of_text text).resizes

-- devices without bad ranges
abbrev pub AreSound : List Device → Type 0
AreSound [] = Unit {0}
AreSound (device ∷ devices) = (bads_of_kind device.kind ≡ []) × AreSound devices

pub sound_at : (devices : List Device) → AreSound devices → (number : ℕ) (device : Device) → slice_get devices number ≡ Some device
    → bads_of_kind device.kind ≡ []
sound_at [] are number device is = absurd (none-some device is)
sound_at (first ∷ devices) are zero device is = subst (λ d. bads_of_kind d.kind ≡ []) (same_Some first device is) are.0
sound_at (first ∷ devices) are (suc number) device is = sound_at devices are.1 number device is

-- what a text tells but for refusals, and what it has to tell for a scenario of devices without bad ranges
pub record Told : Type 0 where
  pub devices : List Declared
  pub bad : List BadOf
  pub fs_bios : ℕ
  pub fs_vecs : ℕ
  pub scripts : List (PoolId × Answers)
  pub writes : List Written
  pub rounds : List ℕ
  pub changes : List Change

abbrev pub told_in : Declarations → Told
told_in known = record {
  devices = known.devices;
  bad = known.bad;
  fs_bios = (reserves_or_two known.fs).bios;
  fs_vecs = (reserves_or_two known.fs).vecs;
  scripts = scripts_of known;
  writes = known.writes;
  rounds = known.rounds;
  changes = kept_resizes (last_round known.rounds) known.resizes;
}

abbrev pub told_of : Scenario → Told
told_of s = record {
  devices = shown_devices s.stack;
  bad = [];
  fs_bios = s.stack.fs_bios;
  fs_vecs = s.stack.fs_vecs;
  scripts = s.scripts;
  writes = map as_written s.writes;
  rounds = s.rounds;
  changes = s.changes;
}

pub says_of : (text : List ℕ) (s : Scenario) → text_refusal text ≡ None → AreSound s.stack.devices.items → told_of s ≡ told_in (known_of_text text)
    → SaysScenario text s
says_of text s right sound told = record {
  right = right;
  means = record {
    devices = ap (λ (t : Told). t.devices) told;
    bad = λ number device is.
        sound_at s.stack.devices.items sound number device is
        ∙ ap (λ (t : Told). map (λ (b : BadOf). b.bad) (filter (λ (b : BadOf). b.disk == number) t.bad)) told;
    fs_bios = ap (λ (t : Told). t.fs_bios) told;
    fs_vecs = ap (λ (t : Told). t.fs_vecs) told;
    scripts = ap (λ (t : Told). t.scripts) told;
  };
  writes = ap (λ (t : Told). t.writes) told;
  rounds = ap (λ (t : Told). t.rounds) told;
  changes = ap (λ (t : Told). t.changes) told;
}
