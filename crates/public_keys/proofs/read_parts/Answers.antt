use Rattle.public_keys.proofs.PublicLaws.{long_length}
use Rattle.public_keys.proofs.read_parts.Goals as goal

pub read_long-requires : goal.read_long-requires
read_long-requires c = long_length c.args.bytes.now c.requires c.if-bytes-eq-SEEDED_KEY_LENGTH.false
