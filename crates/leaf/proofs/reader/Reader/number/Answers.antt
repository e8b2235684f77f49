use Rattle.std.proofs.lemmas.List.{take_rest}
use Rattle.leaf.proofs.EncodedNumbers.{read_encoded, rest_encoded}
use Rattle.leaf.proofs.reader.Reader.number.Goals as goal

pub returns-clause-encoded : goal.returns-clause-encoded
returns-clause-encoded c =
    let n = c.in_ok-n.n in
    let size = c.in_ok-n.size in
    let rest = c.args.self.now.rest.now in
    read_encoded n c.args.self.now.sheet.now rest _ size c.args.self.now.stands c.in_ok-n.ensures.within.1 (take_rest rest size)
    (rest_encoded rest _ _ n size c.number.ensures.bytes c.in_ok-n.ensures.reads)
