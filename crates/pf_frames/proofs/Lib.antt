pub mod OperandLaws
pub mod FrameLaws
pub mod TableLaws
pub mod InstructionLaws
pub mod ReadLaws
pub mod JumpLaws
pub mod TextLaws
pub mod GuessLaws
