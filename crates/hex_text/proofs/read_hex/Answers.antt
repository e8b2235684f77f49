use Rattle.std.proofs.Common.{sym}
use Rattle.hex_text.proofs.Texts.{all_read, cut_short, no_byte, one_byte, past_space}
use Rattle.hex_text.proofs.read_hex.Goals as goal

pub loop-rest-preserved-then-first-eq32 : goal.loop-rest-preserved-then-first-eq32
loop-rest-preserved-then-first-eq32 c = past_space _ _ c.loop-rest.rest.now c.in-len1-up.len_at_least c.if-first-eq32.true c.loop-rest.invariant

pub returns-in_default-behind : goal.returns-in_default-behind
returns-in_default-behind c = cut_short _ _ c.loop-rest.rest.now c.in-len1-up.len_at_least c.if-first-eq32.false c.in_default-behind.len_below c.loop-rest.invariant

pub returns-in_default-byte_of : goal.returns-in_default-byte_of
returns-in_default-byte_of c =
    no_byte _ _ c.byte_of.result c.loop-rest.rest.now (c.in-len1-up.len_at_least, c.if-first-eq32.false, c.in-len1-up-behind.len_at_least, c.byte_of.ensures) (sym c.in_default-byte_of.is) c.loop-rest.invariant

pub loop-rest-preserved : goal.loop-rest-preserved
loop-rest-preserved c =
    one_byte _ _ c.byte_of.result c.loop-rest.rest.now c.in-Some.byte _ (c.in-len1-up.len_at_least, c.if-first-eq32.false, c.in-len1-up-behind.len_at_least, c.byte_of.ensures) (sym c.in-Some.is) c.in_ok-push.ensures.items c.loop-rest.invariant

pub returns : goal.returns
returns c = all_read _ _ c.loop-rest.rest.now c.in_default.len_below c.loop-rest.invariant
