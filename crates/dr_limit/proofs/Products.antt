-- A product that fits.
use Rattle.std.proofs.Common.{ℕ, ◌-◌, ◌*◌, ◌/◌, ◌≤◌, min, Fits, w64, arith}
use Rattle.std.proofs.Math.Nat.{div-le_self, div-le_of_le-mul, mul-le-mul}

-- a time of at most a full ring at the least rate, times a percentage
pub step_fits : (ring peak high low : ℕ) → ring ≤ 65536 → Fits w64 (ring * 4000000 / peak * ((high - low) * 100 / high))
step_fits ring peak high low h =
    let whole : (high - low) * 100 ≤ high * 100 = omega arith in
    let percent : (high - low) * 100 / high ≤ 100 = div-le_of_le-mul high whole in
    let time : ring * 4000000 / peak ≤ ring * 4000000 = div-le_self (ring * 4000000) peak in
    let bound : ring * 4000000 / peak ≤ 262144000000 = omega arith in
    let product : ring * 4000000 / peak * ((high - low) * 100 / high) ≤ 262144000000 * 100 = mul-le-mul bound percent in
    omega arith

-- 99 times the time of a full ring at the least rate
pub sleep_fits : (us ring peak : ℕ) → ring ≤ 65536 → min us (99 * (ring * 4000000 / peak)) ≤ 25952256000000
sleep_fits us ring peak h =
    let time : ring * 4000000 / peak ≤ ring * 4000000 = div-le_self (ring * 4000000) peak in
    omega arith
