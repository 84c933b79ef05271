-- Examples as (wall, counter): sending on both sides of each of its boundaries, and document 01's of receiving.
use Prim.Native.Nat.{ℕ}
use mathlib.Core.Path.{◌≡◌, refl}
use Rattle.error.specs.declared.Refusal.TheVariants.{CounterOverflow}
use Rattle.error.specs.Answer.{ends, refused}
use Rattle.clock.specs.Hlc.{greater, send_l, send_c, send_event, receive_l, receive_c, receive_event}
use Rattle.clock.specs.Hybrid.{new_clock, moved_to, stamped_at, issue_at, now_call}
use Rattle.clock.specs.declared.hybrid.HybridClock.{HybridClock}

-- 02: "first the greater of the old wall and the physical time, then the counter by whether the wall stayed": an earlier physical time
pub send_earlier : send_event (record { l = 10; c = 3 }) 9 ≡ record { l = 10; c = 4 }
unfolding send_event send_l send_c greater
send_earlier = refl

-- an equal one: the wall stays
pub send_equal : send_event (record { l = 10; c = 3 }) 10 ≡ record { l = 10; c = 4 }
unfolding send_event send_l send_c greater
send_equal = refl

-- a later one
pub send_later : send_event (record { l = 10; c = 3 }) 11 ≡ record { l = 11; c = 0 }
unfolding send_event send_l send_c greater
send_later = refl

-- author 7's clock at 10 and this counter
abbrev at_ten : ℕ → HybridClock
at_ten c = moved_to (new_clock (record { 0 = 7 })) (record { l = 10; c = c })

-- the last counter that fits 32 bits is issued
pub send_last : now_call (at_ten 4294967294) 10 ≡ stamped_at (at_ten 0) (record { l = 10; c = 4294967295 })
unfolding now_call issue_at send_event send_l send_c greater
send_last = refl

-- where the wall stays it has no next: 19, and the clock is as it was
pub send_overflow : now_call (at_ten 4294967295) 10 ≡ ends (refused CounterOverflow) (at_ten 4294967295)
unfolding now_call issue_at send_event send_l send_c greater
send_overflow = refl

-- a later physical time starts anew
pub send_anew : now_call (at_ten 4294967295) 11 ≡ stamped_at (at_ten 0) (record { l = 11; c = 0 })
unfolding now_call issue_at send_event send_l send_c greater
send_anew = refl

-- 01: "own 10/3 (wall/counter), remote 10/7, physical 10 gives 10/8"
pub same_walls : receive_event (record { l = 10; c = 3 }) (record { l = 10; c = 7 }) 10 ≡ record { l = 10; c = 8 }
unfolding receive_event receive_l receive_c greater
same_walls = refl

-- 01: "remote 9/7 gives 10/4"
pub own_wall : receive_event (record { l = 10; c = 3 }) (record { l = 9; c = 7 }) 10 ≡ record { l = 10; c = 4 }
unfolding receive_event receive_l receive_c greater
own_wall = refl

-- 01: "remote 12/7 gives 12/8"
pub remote_wall : receive_event (record { l = 10; c = 3 }) (record { l = 12; c = 7 }) 10 ≡ record { l = 12; c = 8 }
unfolding receive_event receive_l receive_c greater
remote_wall = refl

-- 01: "remote 9/7 with physical 13 gives 13/0"
pub physical_wall : receive_event (record { l = 10; c = 3 }) (record { l = 9; c = 7 }) 13 ≡ record { l = 13; c = 0 }
unfolding receive_event receive_l receive_c greater
physical_wall = refl
