-- Keccak-p[1600, 24] of FIPS 202, sections 3.3 and 3.4, on lanes of 64 bits.
use Rattle.std.specs.Prelude.{ℕ, zero, suc}
use Rattle.keccak_steps.specs.Steps.{State, theta, rho, pi, chi, iota}

-- Section 3.3: Rnd(A, ir)
unfoldable pub round : ℕ → State → State
round ir a = iota ir (chi (pi (rho (theta a))))

-- Algorithm 7, step 2: the rounds 0 to n - 1
unfoldable pub rounds : ℕ → State → State
rounds zero a = a
rounds (suc n) a = round n (rounds n a)

-- Algorithm 7: Keccak-p[1600, 24], which is Keccak-f[1600]
unfoldable pub keccak_f : State → State
keccak_f a = rounds 24 a
