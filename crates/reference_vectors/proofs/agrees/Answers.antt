use Rattle.reference_vectors.proofs.agrees.Goals as goal

pub returns-in-CheckSecretKey : goal.returns-in-CheckSecretKey
returns-in-CheckSecretKey c = rw c.in-CheckSecretKey.is c.check_agrees.ensures

pub returns-in-Keygen : goal.returns-in-Keygen
returns-in-Keygen c = rw c.in-Keygen.is c.keygen_case_agrees.ensures

pub returns-in-Writing : goal.returns-in-Writing
returns-in-Writing c = rw c.in-Writing.is c.call_case_agrees.ensures

pub returns-in-OpenBatch : goal.returns-in-OpenBatch
returns-in-OpenBatch c = rw c.in-OpenBatch.is c.open_batch_case_agrees.ensures

pub returns-in-OpenWithMargin : goal.returns-in-OpenWithMargin
returns-in-OpenWithMargin c = rw c.in-OpenWithMargin.is c.open_margin_case_agrees.ensures

pub returns-in-Noise : goal.returns-in-Noise
returns-in-Noise c = rw c.in-Noise.is c.noise_agrees.ensures

pub returns-in-Desk : goal.returns-in-Desk
returns-in-Desk c = rw c.in-Desk.is c.desk_agrees.ensures
