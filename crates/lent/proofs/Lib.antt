-- Why a start and a call on a lent state leave what they should.
pub mod Starting
