-- Two stores one behind the other are one run of two entries.
use Rattle.std.proofs.Common.{◌≡◌, arith}
use Rattle.layout.proofs.Written.{written_two}
use Rattle.layout.proofs.store.Goals as goal

pub returns : goal.returns
returns c =
    let index : c.from-at.result ≡ c.args.n = omega arith in
    rw index (written_two _ _ _ _ (omega arith))
