-- What a seat knows.
use Rattle.std.proofs.Common.{◌≡◌, List, ap, sym, ◌∙◌}
use Rattle.seat_lock.specs.declared.view.Entry.{Entry}
use Rattle.seat_lock.specs.declared.view.Known.{Known}

-- where only what it has seen is new, it is that
pub only_seen : {T A R : Type 0} (old new : Known T A R) (seen : List (Entry A R)) → new ≡ record old { seen = seen } → new ≡ record old { seen = new.seen }
only_seen {T = T} {A = A} {R = R} old new seen is = is ∙ ap (λ (s : List (Entry A R)). record old { seen = s }) (sym (ap (λ (k : Known T A R). k.seen) is))
