use Rattle.key_cases.proofs.generate.Goals as goal

pub returns-in-Stream : goal.returns-in-Stream
returns-in-Stream c =
    record {
      value = rw c.in-Stream.is c.keygen.ensures.value;
      public_after = rw c.in-Stream.is c.keygen.ensures.public_after;
      secret_after = rw c.in-Stream.is c.keygen.ensures.secret_after;
    }

pub returns-in-Seed : goal.returns-in-Seed
returns-in-Seed c =
    record {
      value = rw c.in-Seed.is c.keygen_from_seed.ensures.value;
      public_after = rw c.in-Seed.is c.keygen_from_seed.ensures.public_after;
      secret_after = rw c.in-Seed.is c.keygen_from_seed.ensures.secret_after;
    }
