-- Demand 3 as a caller from C sees it: the bytes that it keeps, the memory that it lends as flash and the numbers that it is given, in one statement.
use Rattle.std.specs.Prelude.{◌≡◌, ◌↔◌, List, ℕ, ◌^◌, ◌<◌, length, Some}
use Rattle.sha256.specs.Sha256.{digest}
use Rattle.lms.specs.Lms.{key_length, valid}
use Rattle.machine.specs.declared.state.Device.{Device}
use Rattle.machine.specs.Answer.{Accepted}
use Rattle.machine.specs.Device.{fresh_with}
use Rattle.machine.specs.Readers.{number_of}
use Rattle.machine.specs.Step.{Call, step_call}
use Rattle.machine.specs.BootCheck.{boot_check}
use Rattle.guarantee.specs.Part.{whole}
use Rattle.guarantee.specs.Run.{Trace, after, answer_to}
use Rattle.guarantee.specs.Demand3.{Claim}
use Rattle.capi.specs.State.{encode, decode}
use Rattle.capi.specs.Call.{boot_check_of}
use Rattle.capi.specs.Status.{status_of, status, due_length_of, block_message_length, due_cost_of, block_message_cost}
use Rattle.capi.specs.Run.{calls_after, returned, AllBytes}
use Rattle.capi.specs.Claims.{Runs}

-- A state as lertxuno_fresh writes it, some memory lent as flash, and then messages and budgets handed to lertxuno_receive, each call with what the one before left.
module _ (model : ℕ) (key flash : List ℕ) (cs : Trace Call) where
  -- the device that demand 3 starts from, and the one after the calls; the bytes that the caller keeps meanwhile
  abbrev fresh : Device
  fresh = fresh_with model key

  abbrev device : Device
  device = (after (step_call digest valid) fresh flash cs).device

  abbrev kept : List ℕ
  kept = (calls_after (encode fresh) flash cs).device

  pub record AfterCalls : Type 0 where
    -- the bytes kept are the device's, the memory lent is its flash, and each call's numbers are those of its answer and of what it reports
    pub runs : Runs fresh flash cs
    -- read back, the bytes kept are the device
    pub state : decode kept ≡ Some device
    -- no reader answers 1 for the bytes kept: lertxuno_status gives the device's numbers, lertxuno_block_message_length and lertxuno_block_cost the length and the cost of
    -- the block message that is due, if a block is
    pub reads : (out : List ℕ) → status kept out ≡ record { answer = 0; out = status_of device }
    pub due : (before : ℕ) → block_message_length kept before ≡ due_length_of before device
    pub cost : (before : ℕ) → block_message_cost kept before ≡ due_cost_of before device
    -- over any memory lent as flash lertxuno_boot_check gives the number of this device's boot check
    pub boot : (lent : List ℕ) → boot_check_of kept lent ≡ number_of (boot_check digest device lent)
    -- 0 is returned exactly where the device accepts
    pub zero : (c : Call) → (returned (encode fresh) flash cs c ≡ 0) ↔ (answer_to (step_call digest valid) fresh flash cs c ≡ Accepted)
    -- of this device and flash demand 3 holds, whole
    pub claim : Claim digest valid (whole digest valid) (step_call digest valid) fresh flash cs

-- For every model and key that C can hand over, every flash, and every list of messages and budgets.
abbrev pub FromC : Type 0
FromC = (model : ℕ) (key : List ℕ) → model < 256 ^ 4 → length key ≡ key_length → (flash : List ℕ) (cs : Trace Call) → AllBytes cs → AfterCalls model key flash cs
