-- Why a condition came out as it did, the words of the theorem about it, and what the code promises.
pub mod Explanation
pub mod Reason
pub mod Promise
pub mod Internal
